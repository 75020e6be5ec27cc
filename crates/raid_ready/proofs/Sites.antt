-- In every run each site is ready for the letters that it may take next.
use Rattle.std.proofs.Common.{◌≡◌, inl, inr, ℕ, ◌+◌, ◌<◌, ◌≤◌, ◌==◌, true, false, List, [], ◌∷◌, Some, arith, sym, subst, ap, ◌∙◌}
use Rattle.std.specs.Prelude.{slice_get}
use Rattle.std.specs.List.{AllByRecursion, list_any}
use Rattle.std.proofs.lemmas.Bool.{eqb-true, true≢false}
use Rattle.raid_base.specs.declared.names.Txn.{Txn}
use Rattle.raid_base.specs.declared.names.Site.{Site}
use Rattle.raid_base.specs.declared.entry.Noted.{Noted}
use Rattle.raid_base.specs.Names.{is_txn, is_site, has_txn, has_site}
use Rattle.raid_base.specs.Sites.{site}
use Rattle.raid_workload.specs.declared.workload.Workload.{Workload}
use Rattle.raid_workload.specs.Parts.{txns, sites, home}
use Rattle.raid_rules.specs.History.{noted, has_begun}
use Rattle.raid_rules.specs.Sessions.{last_session}
use Rattle.raid_message.specs.declared.letter.Message.{Message}
use Rattle.raid_message.specs.declared.letter.Message.TheVariants as letters
use Rattle.raid_message.specs.declared.letter.Letter.{Letter}
use Rattle.raid_message.specs.declared.letter.Pick.{Pick}
use Rattle.raid_steps.specs.State.{Turn, Running, SiteState}
use Rattle.raid_steps.specs.Programs.{runs_here, next_attempt}
use Rattle.raid_steps.specs.World.{World, link, run}
use Rattle.raid_moves.specs.Moves.{Hears, Tells, drops, Starts, at_welcome, at_done, at_drop, next_of, Reached}
use Rattle.raid_moves.proofs.Places.{self}
use Rattle.raid_ends.specs.Ready.{MayTakeUp, Ready}
use Rattle.raid_ends.proofs.Together.{run_few}
use Rattle.raid_asks.proofs.Begins.{All, reached_all}
use Rattle.raid_asks.proofs.Cares.{Stage, stopped, asleep, fresh, awake}
use Rattle.raid_asks.proofs.Homes.{Housed}
use Rattle.raid_asks.proofs.Line.{NoteOk}
use Rattle.raid_asks.proofs.Notes.{IsPlain, WelcomeOk, Welcoming}
use Rattle.raid_asks.proofs.Reached.{run_home}
use Rattle.raid_asks.proofs.Waits.{below, within}
use Rattle.raid_asks.specs.Way.{begins_of as begins}
use Rattle.raid_ready.specs.Told.{tells_over}
use Rattle.raid_ready.proofs.Due.{there}
use Rattle.raid_ready.proofs.Over.{told_begun}
use Rattle.raid_ready.proofs.Starts.{promised_may, first_may, later_may}
use Rattle.raid_ready.proofs.Values.{run_gives}

-- who lets transactions begin
hears_it : (w : Workload) (s : SiteState) (from : ℕ) (letter : Letter) → Starts w s from letter → Hears s letter × (from ≡ 1)
hears_it w s from letter (at_welcome v n tells) = (tells.heard, tells.by)
hears_it w s from letter (at_done t tells) = (tells.heard, tells.by)
hears_it w s from letter (at_drop t again tells) = (tells.heard, tells.by)

module _ (w : Workload) (schedule : List Pick) (k : ℕ) (s : SiteState) (at : slice_get (run w schedule).servers.sites k ≡ Some s) (from : ℕ) (letter : Letter) (rest : List Letter) (front : link (run w schedule).links (k + 2) from ≡ letter ∷ rest) where
  abbrev now : World
  now = run w schedule

  abbrev p : List Noted
  p = noted now.servers.sequencer.history

  abbrev here : Site
  here = site (k + 1)

  abbrev bs : List Txn
  bs = begins s.session (link now.links 1 (k + 2))

  all : All w now
  all = reached_all w schedule

  housed : Housed w k s (link now.links (k + 2) 1)
  housed = all.1.0 k s at

  place : s.site ≡ here
  place = housed.place

  told : from ≡ 1 → link now.links (k + 2) 1 ≡ letter ∷ rest
  told of = ap (link now.links (k + 2)) (sym of) ∙ front

  abbrev Now : List Letter → Type 0
  Now notes = Stage w k p s.up s.session s.running s.next bs notes

  stage : from ≡ 1 → Now (letter ∷ rest)
  stage of = subst Now (told of) (all.1.1 k s at).stage

  -- no letter is for a session that the history doesn't have yet
  early : from ≡ 1 → (letter.to == s.session) ≡ true → last_session p here < s.session → ⊥
  early of to less =
      let last = (subst (λ ls. AllByRecursion (λ (l : Letter). l.to ≤ last_session p here) ls) (told of) (within w now.servers now.links all.0 k s at)).0 in
      let same = eqb-true letter.to s.session to in
      omega (arith, last, same, less)

  none_run : (t : Txn) → s.running ≡ [] → runs_here s t ≡ true → ⊥
  none_run t none runs = true≢false (sym runs ∙ ap (λ (rs : List Running). list_any (λ (r : Running). is_txn t r.txn) rs) none)

  -- what is dropped begins again
  retries : (t : Txn) → Tells w s from letter (letters.Drop t true) → runs_here s t ≡ true → MayTakeUp w p (drops s t).state (next_attempt w t)
  retries t tells runs = go (stage tells.by)
    where
      go : Now (letter ∷ rest) → MayTakeUp w p (drops s t).state (next_attempt w t)
      go (stopped down none unset) = absurd (none_run t none runs)
      go (asleep up less none unset b) = absurd (none_run t none runs)
      go (fresh up last none unset b welcome) = absurd (none_run t none runs)
      go (awake up last fine counts) = promised_may w k p bs t s place fine runs (λ own. (subst (λ m. NoteOk w here p s.session bs m rest) tells.is (counts.notes.0 tells.heard.meant) own).0)

  -- the next one begins
  starts : Starts w s from letter → (turn : Turn SiteState) → Reached w s from letter turn → (turn.state.next == 0) ≡ false → MayTakeUp w p turn.state (next_of turn)
  starts lets turn reached some = go (stage of)
    where
      heard : Hears s letter
      heard = (hears_it w s from letter lets).0

      of : from ≡ 1
      of = (hears_it w s from letter lets).1

      welcomed : s.running ≡ [] → s.next ≡ 0 → Welcoming w here s.session p (letter ∷ rest) → MayTakeUp w p turn.state (next_of turn)
      welcomed none unset (inl (to, welcome)) =
          first_may w k p s.session rest [] s place housed.ascend from letter of turn reached some none unset
          (λ v n tells. (let ok = subst (λ m. WelcomeOk w here s.session p m rest) tells.is welcome in record { line = tt; counts = ok.1.0; notes = ok.1.1 }))
          (λ t tells. subst (λ m. WelcomeOk w here s.session p m rest) tells.is welcome)
      welcomed none unset (inr (plain, later)) =
          first_may w k p s.session rest [] s place housed.ascend from letter of turn reached some none unset
          (λ v n tells. absurd (subst IsPlain tells.is (plain tells.heard.meant)))
          (λ t tells. subst IsPlain tells.is (plain tells.heard.meant))

      go : Now (letter ∷ rest) → MayTakeUp w p turn.state (next_of turn)
      go (stopped down none unset) = absurd (true≢false (sym heard.up ∙ down))
      go (asleep up less none unset b) = absurd (early of heard.meant less)
      go (fresh up last none unset b welcome) = welcomed none unset welcome
      go (awake up last fine counts) =
          later_may w k p s.session rest bs s place housed.ascend from letter of turn reached some fine (record { line = counts.line; counts = counts.counts; notes = counts.notes.1 })
          (λ v n tells. subst (λ m. NoteOk w here p s.session bs m rest) tells.is (counts.notes.0 tells.heard.meant))
          (λ t tells. subst (λ m. NoteOk w here p s.session bs m rest) tells.is (counts.notes.0 tells.heard.meant))

  over : (t : Txn) (m : Message) → Tells w s from letter m → tells_over t m ≡ true → has_begun p t ≡ true
  over t m tells of = told_begun w schedule k letter rest (told tells.by) t (ap (tells_over t) tells.is ∙ of)

  pub run_sites : Ready w p s from letter
  run_sites = record {
    known = subst (λ x. has_site (sites w) x ≡ true) (sym place) (there 1 w.sites here (omega arith) (let b = below w now.servers now.links all.0 k s at in omega (arith, b)));
    own = subst (λ x. AllByRecursion (λ (r : Running). (has_txn (txns w) r.txn ≡ true) × (is_site x (home w r.txn) ≡ true)) s.running) (sym place) (run_home w schedule k s at).own;
    once = (run_home w schedule k s at).once;
    together = run_few w schedule k s at;
    gives = run_gives w schedule k s at;
    done = λ t tells. over t (letters.Done t) tells (self t.0);
    dropped = λ t again tells. over t (letters.Drop t again) tells (self t.0);
    retries = retries;
    starts = starts;
  }
