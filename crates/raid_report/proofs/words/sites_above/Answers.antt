use Rattle.std.proofs.Common.{◌≡◌, ◌∷◌, ◌++◌, [], List, Option, Some, sym, ap, ◌∙◌, arith, refl}
use Rattle.std.proofs.lemmas.List.{append-nil}
use Rattle.raid_base.specs.declared.names.Site.{Site}
use Rattle.raid_pieces.specs.Pieces.{pieces_behind}
use Rattle.raid_report.specs.Forms.{sites_above}
use Rattle.raid_report.proofs.Ascending.{above_pushed, with_behind}
use Rattle.raid_report.proofs.Loops.{prefixed_more, prefixed_one, below_pushed, first_above, above_more}
use Rattle.raid_report.proofs.words.sites_above.Goals as goal

pub loop-part-init : goal.loop-part-init
unfolding sites_above
loop-part-init c =
    let w = c.args.known.now in
    let s = c.in_ok-last.last in
    let within = c.in_ok-last.ensures.within in
    let e : c.with-sites.result ≡ s ∷ [] = rw c.none.ensures at c.with-sites.ensures ∙ with_behind 0 [] s tt tt within.0 within.1 in
    let first = first_above w c.first_piece.result.0.now s c.in_ok-last.ensures.reads within.0 in
    let read = prefixed_one s (sites_above w s.0 (pieces_behind 44 c.first_piece.result.1.now)) in
    rw e (record {
      some = within.0;
      few = within.1;
      ascending = (within.0, within.1, tt);
      below = (omega arith, tt);
      read = rw (c.first_piece.ensures.piece, first) read;
    })

pub loop-part-preserved : goal.loop-part-preserved
unfolding sites_above
loop-part-preserved c =
    let w = c.args.known.now in
    let s = c.in_ok-last-2.last in
    let sites = c.loop-part.sites in
    let within = c.in_ok-last-2.ensures.within in
    let more = above_more w c.loop-part.last.0 c.in-Some.part.now s c.in_ok-last-2.ensures.reads in
    let e : c.with-sites-in-Some.result ≡ sites ++ s ∷ [] =
    c.with-sites-in-Some.ensures ∙ with_behind c.loop-part.last.0 sites s c.loop-part.invariant.ascending c.loop-part.invariant.below more within.1 in
    let read = rw (c.in-Some.ensures.piece) at c.loop-part.invariant.read in
    let next = rw (c.in_ok-last-2.ensures.reads) at read in
    rw e (record {
      some = within.0;
      few = within.1;
      ascending = above_pushed 0 c.loop-part.last.0 sites s c.loop-part.invariant.ascending c.loop-part.invariant.below more within.0 within.1;
      below = below_pushed c.loop-part.last.0 s.0 sites s c.loop-part.invariant.below more refl;
      read = sym (prefixed_more sites s (sites_above w s.0 (pieces_behind 44 c.in-Some.after.now))) ∙ next;
    })

pub returns : goal.returns
unfolding sites_above
returns c =
    let read = rw (c.in_default.ensures.piece) at c.loop-part.invariant.read in
    sym read ∙ ap (λ (ss : List Site). let o : Option (List Site) = Some ss in o) (append-nil c.loop-part.sites)
