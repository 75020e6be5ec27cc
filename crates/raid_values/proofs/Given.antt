-- The value that a letter gives to a program is the one that its transaction has seen.
use Rattle.std.proofs.Common.{◌≡◌, ℕ, ℤ, suc, ◌+◌, ◌-◌, ◌==◌, true, false, ◌&&◌, List, ◌∷◌, Option, Some, arith, sym, subst, ap, ◌∙◌, refl}
use Rattle.std.specs.Prelude.{slice_get}
use Rattle.std.specs.List.{AllByRecursion}
use Rattle.std.proofs.lemmas.Bool.{and_from}
use Rattle.raid_base.specs.declared.names.Item.{Item}
use Rattle.raid_base.specs.declared.names.Site.{Site}
use Rattle.raid_base.specs.declared.entry.Noted.{Noted}
use Rattle.raid_base.specs.Names.{is_txn, is_site}
use Rattle.raid_base.specs.Sites.{site}
use Rattle.raid_workload.specs.declared.workload.Workload.{Workload}
use Rattle.raid_rules.specs.History.{noted, has_ended}
use Rattle.raid_rules.specs.Sessions.{last_session}
use Rattle.raid_legal.specs.Seen.{seen}
use Rattle.raid_message.specs.declared.letter.Message.TheVariants as letters
use Rattle.raid_message.specs.declared.letter.Letter.{Letter}
use Rattle.raid_message.specs.declared.letter.Pick.{Pick}
use Rattle.raid_steps.specs.State.{asking, Running, SiteState}
use Rattle.raid_steps.specs.Copies.{copy_of}
use Rattle.raid_steps.specs.Programs.{running_of}
use Rattle.raid_steps.specs.World.{World, link, run}
use Rattle.raid_sessions.proofs.Lists.{is_same, same_self}
use Rattle.raid_moves.specs.Moves.{Given, read_here, read_elsewhere}
use Rattle.raid_letters.specs.Says.{NoteSays}
use Rattle.raid_letters.proofs.Runs.{LetterSays, QueueSays}
use Rattle.raid_layers.specs.Asks.{asks_of, OfSequencer, HoldsOf, AskOneThing}
use Rattle.raid_layers.proofs.Laws.{asks_one}
use Rattle.raid_layers.proofs.Tokens.{TokenAt}
use Rattle.raid_staged.specs.Agree.{PartsAgree}
use Rattle.raid_staged.proofs.PartRuns.{runs_agree}
use Rattle.raid_staged.proofs.Runs.{landed}
use Rattle.raid_staged.proofs.Worlds.{Landed}
use Rattle.raid_versions.specs.Versions.{IsLive, Along}
use Rattle.raid_values.specs.Gets.{Ask, reads_for, ReadsSeen, brings_for, BringsSeen, IsAnsweredBySeen, GetWhatTheySaw, GivesSeen}
use Rattle.raid_values.specs.Values.{committed_value}
use Rattle.raid_values.proofs.Claims.{IsOfItem, of_item, read_whole}
use Rattle.raid_values.proofs.Committed.{AllOf, CopyOf, own_copy}
use Rattle.raid_values.proofs.GetsRuns.{runs_get}
use Rattle.raid_values.proofs.GetsWorlds.{outstanding}
use Rattle.raid_values.proofs.Runs.{runs_of}

module _ (w : Workload) (state : World) (landed : Landed w state) (agree : PartsAgree w state) (copies : AllOf w (noted state.servers.sequencer.history) state.servers.sites state.links) (talk : AskOneThing w state)
    (gets : GetWhatTheySaw w (noted state.servers.sequencer.history) state.servers.sites state.links)
    (from clock : ℕ) (letter : Letter) (rest : List Letter) (j : ℕ) (own : SiteState) (live : IsLive (noted state.servers.sequencer.history) state.servers.sites j own) (front : link state.links (suc (suc j)) from ≡ letter ∷ rest) where
  abbrev p : List Noted
  p = noted state.servers.sequencer.history

  -- at a live home, for a program of a transaction that isn't over, which waits for this item under this ask
  pub given_seen : (r : Running) (number : ℕ) (x : Item) (q : Option Site) (v : ℤ) → running_of own r.txn ≡ Some r → r.phase ≡ asking number x q → has_ended (noted state.servers.sequencer.history) r.txn ≡ false → Given w own from letter r.txn number v →
      seen w (noted state.servers.sequencer.history) r.txn x ≡ Some v
  given_seen r number x q v f is alive given = go given
    where
      a : Ask
      a = record { txn = r.txn; place = j; session = own.session; number = number; item = x }

      old : IsAnsweredBySeen w p state.servers.sites state.links a
      old = gets j own r number x q live f is alive

      place : suc (suc j) ≡ j + 2
      place = omega arith

      front_here : (d : ℕ) → from ≡ d → link state.links (j + 2) d ≡ letter ∷ rest
      front_here d e = ap (λ c. link state.links c d) (sym place) ∙ ap (link state.links (suc (suc j))) (sym e) ∙ front

      go : {u : ℤ} → Given w own from letter r.txn number u → seen w p r.txn x ≡ Some u
      go (read_here y h n c told found home_is) =
          (subst (Along (ReadsSeen w p a) p x own.session c.version) (front_here 1 told.by) (old.read j own c live found_x)).0 told.heard.meant (subst (λ z. reads_for a z ≡ true) (sym told.is) reads_it)
          ∙ ap Some (sym (its.0.value ∙ ap (λ i. committed_value w p i c.version) (its.1 ∙ item_is)))
        where
          at_home : (h.0 == j + 1) ≡ true
          at_home = subst (λ s. is_site s h ≡ true) (landed.says.homes j own live.at).place home_is

          says : NoteSays w p (site (j + 1)) letter.to (letters.ReadDo r.txn number y h n)
          says =
              subst (NoteSays w p (site (j + 1)) letter.to) told.is
              (subst (λ s. NoteSays w p s letter.to letter.message) (ap site (let e : suc (suc j) - 1 ≡ j + 1 = omega arith in e))
              (subst (λ d. LetterSays w p (suc (suc j)) d letter) told.by (subst (QueueSays w p (suc (suc j)) from) front (landed.says.says (suc (suc j)) from)).0))

          meant : (n == own.session) ≡ true
          meant = subst (λ z. (z == own.session) ≡ true) (sym (says.own (subst (λ s. is_site s h ≡ true) (landed.says.homes j own live.at).place home_is))) told.heard.meant

          item_is : y ≡ x
          item_is =
              (subst (OfSequencer r.txn j own.session (IsOfItem number x) (suc (suc j)) letter.to) told.is
              (subst (λ d. HoldsOf r.txn j own.session (IsOfItem number x) (suc (suc j)) d letter.to letter.message) told.by
              (subst (AllByRecursion (TokenAt r.txn j own.session (IsOfItem number x) (suc (suc j)) from)) front
              (of_item p state.links j own.session r.txn number x q (asks_of r.txn (link state.links 1 (j + 2))) (outstanding w state talk j own r number x q live f is alive) (suc (suc j)) from)).0)) (same_self r.txn.0) at_home meant refl

          found_x : copy_of own x ≡ Some c
          found_x = ap (copy_of own) (sym item_is) ∙ found

          its : CopyOf w p c × (c.item ≡ y)
          its = own_copy w state landed agree copies from clock letter rest j own live.at front y c found

          reads_it : reads_for a (letters.ReadDo r.txn number y h n) ≡ true
          reads_it = read_whole a r.txn number y h n (record { own = same_self r.txn.0; numbered = refl; of = is_same y.0 x.0 (ap (λ (i : Item). i.0) item_is); at = at_home; meant = meant })
      go (read_elsewhere i u said) =
          subst (BringsSeen w p a letter.to) said.is (subst (AllByRecursion (λ (l : Letter). BringsSeen w p a l.to l.message)) (front_here (i + 2) (let by = said.by in omega (arith, by))) (old.brought i)).0 (brings_whole said.heard.meant)
        where
          brings_whole : (letter.to == own.session) ≡ true → brings_for a letter.to (letters.Value r.txn number u) ≡ true
          brings_whole meant = and_from (is_txn r.txn r.txn && number == number) (letter.to == own.session) (and_from (is_txn r.txn r.txn) (number == number) (same_self r.txn.0) (same_self number)) meant

-- so in every run
pub runs_give : (w : Workload) (schedule : List Pick) (k : ℕ) (s : SiteState) → slice_get (run w schedule).servers.sites k ≡ Some s → s.up ≡ true → last_session (noted (run w schedule).servers.sequencer.history) (site (k + 1)) ≡ s.session →
    (from : ℕ) (letter : Letter) (rest : List Letter) → link (run w schedule).links (suc (suc k)) from ≡ letter ∷ rest → (r : Running) (ask : ℕ) (x : Item) (q : Option Site) (v : ℤ) → running_of s r.txn ≡ Some r → r.phase ≡ asking ask x q →
    has_ended (noted (run w schedule).servers.sequencer.history) r.txn ≡ false → Given w s from letter r.txn ask v → seen w (noted (run w schedule).servers.sequencer.history) r.txn x ≡ Some v
runs_give w schedule k s at up last from letter rest front =
    given_seen w (run w schedule) (landed w schedule) (runs_agree w schedule) (runs_of w schedule) (asks_one w schedule) (runs_get w schedule) from 0 letter rest k s (record { at = at; up = up; last = last }) front

pub all_give : (w : Workload) (schedule : List Pick) → GivesSeen w (run w schedule)
all_give w schedule k s live from letter rest front = runs_give w schedule k s live.at live.up live.last from letter rest (ap (λ c. link (run w schedule).links c from) (let e : suc (suc k) ≡ k + 2 = omega arith in e) ∙ front)
