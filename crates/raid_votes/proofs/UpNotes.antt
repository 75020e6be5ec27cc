-- In every run, a site's vector has a session for each site, and a note that a site is up names a session of it.
use Rattle.std.proofs.Common.{◌≡◌, ℕ, suc, ◌+◌, ◌≤◌, ◌==◌, Bool, true, false, List, [], ◌∷◌, ◌++◌, length, map, Some, if◌then◌else◌, arith, sym, subst, ap, ◌∙◌, refl, append-nil}
use Rattle.std.specs.Prelude.{⊤, slice_get}
use Rattle.std.specs.List.{AllByRecursion}
use Rattle.std.proofs.lemmas.Bool.{eqb-true}
use Rattle.raid_base.specs.declared.entry.Entry.{Entry}
use Rattle.raid_base.specs.declared.entry.Entry.TheVariants.{Read, Commit, Abort, Down, Up}
use Rattle.raid_base.specs.declared.entry.Noted.{Noted}
use Rattle.raid_workload.specs.declared.workload.Workload.{Workload}
use Rattle.raid_rules.specs.History.{noted}
use Rattle.raid_legal.specs.Seen.{vector}
use Rattle.raid_message.specs.declared.letter.Message.{Message}
use Rattle.raid_message.specs.declared.letter.Message.TheVariants as letters
use Rattle.raid_message.specs.declared.letter.Letter.{Letter}
use Rattle.raid_message.specs.declared.letter.Pick.{Pick}
use Rattle.raid_steps.specs.State.{Out, SiteState, Copying, opened}
use Rattle.raid_steps.specs.Sequencer as rows
use Rattle.raid_steps.specs.Sequencer.{hear_sequencer}
use Rattle.raid_steps.specs.Site.{hear_site}
use Rattle.raid_steps.specs.World.{link, run, open_world}
use Rattle.raid_sessions.proofs.Lists.{all_append}
use Rattle.raid_asks.proofs.Notes.{all_sent}
use Rattle.raid_asks.proofs.Reached.{first_state, first_notes}
use Rattle.raid_versions.proofs.Sent.{SendsOf, sends_of}
use Rattle.raid_versions.proofs.Steps.{Why}
use Rattle.raid_vectors.proofs.Along.{sent, copied, EntriesKeep, CopiesKeep, steps_keep}
use Rattle.raid_vectors.proofs.Frame.{Each, AtSequencer, AtSite, in_runs}
use Rattle.raid_vectors.proofs.Runs.{heard_by_steps}
use Rattle.raid_witness.proofs.FitSites.{long_zeros, IsFit, step_fits}

-- the message, if it says that a site is up, names a session
abbrev pub NamesSession : Message → Type 0
NamesSession (letters.UpNote s n) = 1 ≤ n
NamesSession other = ⊤

abbrev pub NameSessions : List Letter → Type 0
NameSessions ls = AllByRecursion (λ (l : Letter). NamesSession l.message) ls

module _ (w : Workload) where
  abbrev J : ℕ → List Noted → SiteState → List Letter → List Letter → Type 0
  J k p s asks notes = IsFit w (opened s) × NameSessions notes

  module _ (from clock : ℕ) (letter : Letter) (first : List Noted) (k : ℕ) where
    entries : EntriesKeep w from letter first k clock (λ p notes. NameSessions notes)
    entries h e ask p goes why notes a =
        all_append (λ (l : Letter). NamesSession l.message) notes (sent w from letter first k clock (noted (h ++ e ∷ [])) ask e) a
        (all_sent (λ (l : Letter). NamesSession l.message) (k + 2) 0 clock (rows.sends w (noted (h ++ e ∷ [])) ask e) (sends_of w (noted (h ++ e ∷ [])) ask (λ (out : Out). out.0 ≡ k + 2 → NamesSession out.2) e (each e why)))
      where
        each : (e : Entry) → Why w from letter first (noted h) e → SendsOf w (noted (h ++ e ∷ [])) ask (λ (out : Out). out.0 ≡ k + 2 → NamesSession out.2) e
        each (Read t x s) why = ((λ to. tt), (λ to. tt))
        each (Commit t request applied) why = λ s. ((λ there to. tt), (λ to. tt))
        each (Abort t cause act) why = λ s to. tt
        each (Down r) why = λ s to. tt
        each (Up r n) why = ((λ to. tt), (λ s to. let less = why.1 in omega (arith, less)))
        each other why = tt

    copies : CopiesKeep w from letter first k clock (λ p notes. NameSessions notes)
    copies p due notes a = all_append (λ (l : Letter). NamesSession l.message) notes (copied w from letter first k clock p due) a (all_sent (λ (l : Letter). NamesSession l.message) (k + 2) 0 clock (map (rows.copy_out (vector w p)) due) (each due))
      where
        each : (due : List Copying) → AllByRecursion (λ (out : Out). out.0 ≡ k + 2 → NamesSession out.2) (map (rows.copy_out (vector w p)) due)
        each [] = tt
        each (c ∷ due) = ((λ to. tt), each due)

  sequencer : AtSequencer w J
  sequencer world known from clock letter rest front k s at j = (
    j.0,
    steps_keep w from letter p k clock (λ p notes. NameSessions notes) (link world.links (k + 2) 1) (entries from clock letter p k) (copies from clock letter p k) (opened world.servers.sequencer) (hear_sequencer w world.servers.sequencer from letter)
        (heard_by_steps w world known from clock letter rest front) (subst NameSessions (sym (append-nil (link world.links (k + 2) 1))) j.1),
  )
    where
      p : List Noted
      p = noted world.servers.sequencer.history

  own : AtSite w J
  own world known from clock letter rest k s at front j = (record { long = fit.long; programs = fit.programs; names = tt }, left (from == 1) refl)
    where
      fit : IsFit w (hear_site w s from letter)
      fit = step_fits w s from letter j.0 (known.says.homes k s at).ascend

      left : (b : Bool) → (from == 1) ≡ b → NameSessions (if b then rest else link world.links (k + 2) 1)
      left true q = (subst NameSessions (ap (link world.links (k + 2)) (sym (eqb-true from 1 q)) ∙ front) j.1).1
      left false q = j.1

  opens : Each w J (open_world w).servers (open_world w).links
  opens k s at = (
    subst (λ (z : SiteState). IsFit w (opened z)) (first_state w 1 w.sites k s at) (record { long = long_zeros w.sites; programs = tt; names = tt }),
    subst NameSessions (sym (ap (λ c. link (open_world w).links c 1) (let e : k + 2 ≡ suc (suc k) = omega arith in e) ∙ first_notes w 1 w.sites k s at)) (tt, tt),
  )

  facts : (schedule : List Pick) → Each w J (run w schedule).servers (run w schedule).links
  facts schedule = in_runs w J sequencer own opens schedule

  pub long_vectors : (schedule : List Pick) (k : ℕ) (s : SiteState) → slice_get (run w schedule).servers.sites k ≡ Some s → length s.vector ≡ w.sites
  long_vectors schedule k s at = (facts schedule k s at).0.long

  pub notes_name : (schedule : List Pick) (k : ℕ) (s : SiteState) → slice_get (run w schedule).servers.sites k ≡ Some s → NameSessions (link (run w schedule).links (k + 2) 1)
  notes_name schedule k s at = (facts schedule k s at).1
