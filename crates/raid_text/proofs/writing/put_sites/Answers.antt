use Rattle.std.proofs.Common.{◌≡◌, ◌++◌, ◌∙◌, ap, sym, map, ◌+◌, List, ℕ, drop, filter, arith}
use Rattle.raid_base.specs.declared.names.Site.{Site}
use Rattle.raid_base.specs.Names.{has_site}
use Rattle.raid_base.specs.Sites.{all_sites}
use Rattle.raid_text.specs.Spelling.{spaced, site_word}
use Rattle.raid_text.proofs.HoldersAgain.{kept_are}
use Rattle.raid_text.proofs.Spaced.{site_written, site_skipped, sites_end}
use Rattle.raid_text.proofs.writing.put_sites.Goals as goal
use Rattle.raid_text.proofs.writing.put_sites.Goals.{then-contains+in_ok-put_site, else-contains}

pub loop-before-preserved : goal.loop-before-preserved
loop-before-preserved c =
    let test = has_site c.args.sites in
    let n = c.loop-before.before in
    elim c.if-contains.branch [
      | then-contains+in_ok-put_site w ↦
          ap (λ (out : List ℕ). out ++ spaced (map site_word (filter test (drop (n + 1) all_sites)))) (w.out-is ∙ w.in_ok-put_site.ensures)
          ∙ site_written test c.loop-before.out n c.loop-before-test.true (sym c.contains.ensures ∙ w.if-contains.true) ∙ c.loop-before.invariant
      | else-contains w ↦
          ap (λ (out : List ℕ). out ++ spaced (map site_word (filter test (drop (n + 1) all_sites)))) w.out-is
          ∙ site_skipped test c.loop-before.out n c.loop-before-test.true (sym c.contains.ensures ∙ w.if-contains.false) ∙ c.loop-before.invariant
    ]

pub returns : goal.returns
returns c =
    let end : c.loop-before.before ≡ 8 = omega (arith, c.loop-before-test.false, c.loop-before.auto.before-end) in
    sites_end (has_site c.args.sites) c.loop-before.out c.loop-before.before end ∙ c.loop-before.invariant
    ∙ ap (λ (sites : List Site). c.args.out.now ++ spaced (map site_word sites)) (kept_are 8 1 8 c.args.sites (omega arith) c.requires)
