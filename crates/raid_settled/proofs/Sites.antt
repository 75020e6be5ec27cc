-- A source that is asked for a copy sends it, and a target that gets one tells of it: so a site's step keeps a copy under way.
use Rattle.std.proofs.Common.{◌≡◌, ℕ, ℤ, suc, ◌+◌, ◌==◌, nat_le, Bool, true, false, ◌&&◌, List, [], ◌∷◌, fold, Option, Some, if◌then◌else◌, sym, subst, ap, ◌∙◌}
use Rattle.std.specs.List.{list_any}
use Rattle.std.specs.Option.{option_map_or}
use Rattle.std.proofs.lemmas.Bool.{and_parts, and_from, eqb-true, true≢false}
use Rattle.raid_base.specs.declared.names.Item.{Item}
use Rattle.raid_base.specs.declared.names.Site.{Site}
use Rattle.raid_base.specs.Names.{is_item, is_site}
use Rattle.raid_workload.specs.declared.workload.Workload.{Workload}
use Rattle.raid_message.specs.declared.letter.Message.{Message}
use Rattle.raid_message.specs.declared.letter.Message.TheVariants as letters
use Rattle.raid_message.specs.declared.letter.Letter.{Letter}
use Rattle.raid_letters.proofs.Sends.{same_site}
use Rattle.raid_steps.specs.State.{Out, Turn, opened, tell, with_state, Copy, Phase, asking, preparing, sent, Running, SiteState}
use Rattle.raid_steps.specs.Fits.{knows_site, knows_item, is_of_sequencer, is_of_site}
use Rattle.raid_steps.specs.Copies.{copy_of, holds_copy, set_copy}
use Rattle.raid_steps.specs.Programs.{ask_commit, ask_commits}
use Rattle.raid_steps.specs.Site as rows
use Rattle.raid_base.specs.Sites.{site}
use Rattle.raid_versions.proofs.SiteCopies.{same_item}
use Rattle.raid_settled.specs.Settled.{asks_for, brings, tells}
use Rattle.raid_settled.proofs.Links.{or_left, any_behind}

-- what the messages are
pub asks_is : (x : Item) (target : Site) (n : ℕ) (m : Message) → asks_for x target n m ≡ true → m ≡ letters.CopyDo x target n
asks_is x target n (letters.CopyDo y s k) h =
    ap (λ z. letters.CopyDo z s k) (same_item x y both.0) ∙ ap (λ z. letters.CopyDo x z k) (same_site target s rest.0) ∙ ap (letters.CopyDo x target) (eqb-true k n rest.1)
  where
    both : (is_item x y ≡ true) × ((is_site target s && (k == n)) ≡ true)
    both = and_parts (is_item x y) (is_site target s && (k == n)) h

    rest : (is_site target s ≡ true) × ((k == n) ≡ true)
    rest = and_parts (is_site target s) (k == n) both.1
asks_is x target n other h = absurd (true≢false (sym h))

pub brings_is : (x : Item) (m : Message) → brings x m ≡ true → (value : ℤ) × ((v : ℕ) × (m ≡ letters.CopyValue x value v))
brings_is x (letters.CopyValue y value v) h = (value, (v, ap (λ z. letters.CopyValue z value v) (same_item x y h)))
brings_is x other h = absurd (true≢false (sym h))

pub tells_is : (x : Item) (m : Message) → tells x m ≡ true → (v : ℕ) × (m ≡ letters.CopyDone x v)
tells_is x (letters.CopyDone y v) h = (v, ap (λ z. letters.CopyDone z v) (same_item x y h))
tells_is x other h = absurd (true≢false (sym h))

-- what a turn has sent is sent still when commits are asked for
one_commit : (test : Out → Bool) (turn : Turn SiteState) (r : Running) (phase : Phase) → list_any test turn.outs ≡ true → list_any test (ask_commit turn r phase).outs ≡ true
one_commit test turn r (asking k x q) h = h
one_commit test turn r (preparing reads writes []) h = any_behind test turn.outs _ h
one_commit test turn r (preparing reads writes (s ∷ ss)) h = h
one_commit test turn r sent h = h

commits : (test : Out → Bool) (rs : List Running) (turn : Turn SiteState) → list_any test turn.outs ≡ true → list_any test (fold (λ now r. ask_commit now r r.phase) turn rs).outs ≡ true
commits test [] turn h = h
commits test (r ∷ rs) turn h = commits test rs (ask_commit turn r r.phase) (one_commit test turn r r.phase h)

module _ (w : Workload) (s : SiteState) (letter : Letter) (up : s.up ≡ true) (meant : (letter.to == s.session) ≡ true) (x : Item) (known : knows_item w x ≡ true) (d : Copy) (held : holds_copy s x ≡ true) (has : copy_of s x ≡ Some d) where
  -- a source that hears that it is to send a copy
  module _ (target : Site) (n : ℕ) (wanted : knows_site w target ≡ true) (is : letter.message ≡ letters.CopyDo x target n) where
    asked_turn : rows.hear_site w s 1 letter ≡ ask_commits (rows.copy_row (opened s) x target n)
    asked_turn =
        ap (λ b. if b then rows.hear_up w s 1 letter else rows.hear_down s 1 letter) up
        ∙ ap (λ b. if b then rows.hear_sequencer w s letter else opened s) meant
        ∙ ap (λ m. rows.hear_if (is_of_sequencer w m && rows.fits_here w s m) s (rows.sequencer_row w (opened s) m)) is
        ∙ ap (λ b. rows.hear_if b s (rows.copy_row (opened s) x target n)) (and_from (knows_item w x && knows_site w target) (holds_copy s x) (and_from (knows_item w x) (knows_site w target) known wanted) held)

    pub sends_copy : (test : Out → Bool) → test (target.0 + 1, n, letters.CopyValue x d.value d.version) ≡ true → list_any test (rows.hear_site w s 1 letter).outs ≡ true
    sends_copy test passes = subst (λ (turn : Turn SiteState). list_any test turn.outs ≡ true) (sym asked_turn) (commits test (rows.copy_row (opened s) x target n).state.running (rows.copy_row (opened s) x target n) row)
      where
        row : list_any test (rows.copy_row (opened s) x target n).outs ≡ true
        row = subst (λ (o : Option Copy). list_any test (option_map_or (λ (c : Copy). let out : Out = (target.0 + 1, n, letters.CopyValue x c.value c.version) in let turn : Turn SiteState = record { state = s; outs = out ∷ [] } in turn) o (opened s)).outs ≡ true) (sym has) (or_left (test (target.0 + 1, n, letters.CopyValue x d.value d.version)) false passes)

  -- a target that hears a copy that isn't older than its own
  module _ (i : ℕ) (value : ℤ) (v : ℕ) (newer : nat_le d.version v ≡ true) (is : letter.message ≡ letters.CopyValue x value v) where
    brought_turn : rows.hear_site w s (suc (suc i)) letter ≡ ask_commits (rows.copied_row (opened s) x value v)
    brought_turn =
        ap (λ b. if b then rows.hear_up w s (suc (suc i)) letter else rows.hear_down s (suc (suc i)) letter) up
        ∙ ap (λ b. if b then rows.hear_peer w s (site (i + 1)) letter else rows.refuse s (i + 2) letter letter.message) meant
        ∙ ap (λ m. rows.hear_if (is_of_site w m && rows.fits_here w s m) s (rows.peer_row w (opened s) (site (i + 1)) letter.from m)) is
        ∙ ap (λ b. rows.hear_if b s (rows.copied_row (opened s) x value v)) (and_from (knows_item w x) (holds_copy s x) known held)

    pub tells_renewed : (test : Out → Bool) → test (1, 0, letters.CopyDone x v) ≡ true → list_any test (rows.hear_site w s (suc (suc i)) letter).outs ≡ true
    tells_renewed test passes = subst (λ (turn : Turn SiteState). list_any test turn.outs ≡ true) (sym brought_turn) (commits test (rows.copied_row (opened s) x value v).state.running (rows.copied_row (opened s) x value v) row)
      where
        fresh : list_any test (rows.refresh (opened s) x value v d).outs ≡ true
        fresh = subst (λ b. list_any test (if b then tell (with_state (opened s) (record s { copies = set_copy x value v s.copies })) (letters.CopyDone x v) else opened s).outs ≡ true) (sym newer) (or_left (test (1, 0, letters.CopyDone x v)) false passes)

        row : list_any test (rows.copied_row (opened s) x value v).outs ≡ true
        row = subst (λ (o : Option Copy). list_any test (option_map_or (rows.refresh (opened s) x value v) o (opened s)).outs ≡ true) (sym has) fresh
