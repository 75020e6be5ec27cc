-- How a program that waits stands in a world: fewer reads were granted it than it has asked for, or what was granted is under way.
use Rattle.std.proofs.Common.{◌≡◌, ◌⊎◌, inl, inr, ℕ, ◌+◌, ◌<◌, ◌≤◌, ◌==◌, nat_lt, Bool, true, false, ◌&&◌, List, [], ◌∷◌, Option, Some, if◌then◌else◌, sym, subst, ap, ◌∙◌, refl}
use Rattle.std.specs.Prelude.{slice_get, is_some}
use Rattle.std.specs.List.{list_any}
use Rattle.std.proofs.lemmas.Bool.{true≢false}
use Rattle.raid_base.specs.declared.names.Txn.{Txn}
use Rattle.raid_base.specs.declared.names.Item.{Item}
use Rattle.raid_base.specs.declared.names.Site.{Site}
use Rattle.raid_base.specs.declared.entry.Entry.TheVariants.{Read}
use Rattle.raid_base.specs.declared.entry.Noted.{Noted}
use Rattle.raid_base.specs.Sites.{session, site}
use Rattle.raid_workload.specs.declared.workload.Workload.{Workload}
use Rattle.raid_rules.specs.History.{has_ended}
use Rattle.raid_rules.specs.Sessions.{last_session}
use Rattle.raid_legal.specs.Seen.{vector, has_down_after}
use Rattle.raid_legal.specs.Legal.{last_read}
use Rattle.raid_message.specs.declared.letter.Message.{Message}
use Rattle.raid_message.specs.declared.letter.Letter.{Letter}
use Rattle.raid_steps.specs.State.{Out, asking, Running, SiteState}
use Rattle.raid_steps.specs.Fits.{knows_site}
use Rattle.raid_steps.specs.Programs.{running_of}
use Rattle.raid_steps.specs.World.{World, link}
use Rattle.raid_sessions.proofs.Mail.{letter_of, letters_to}
use Rattle.raid_asks.proofs.Facts.{or_left, or_right, or_parts}
use Rattle.raid_layers.specs.Asks.{asks_of}
use Rattle.raid_layers.proofs.Worlds.{TalkAll, Landed}
use Rattle.raid_versions.proofs.Owed.{Known}
use Rattle.raid_witness.specs.Ended.{HasEnded, count_reads}
use Rattle.raid_grants.specs.Grants.{is_to_read, brings_value, ValueComes, told, brought, ended, IsUnderWay}
use Rattle.raid_grants.proofs.Entries.{Mid, positive}

-- a letter is sent, where it is among what is sent there
pub sent_there : (c session clock : ℕ) (test : Letter → Bool) (outs : List Out) → list_any (λ (out : Out). out.0 == c && test (letter_of session clock out)) outs ≡ true → list_any test (letters_to c session clock outs) ≡ true
sent_there c session clock test [] q = q
sent_there c session clock test (out ∷ outs) q = go (out.0 == c) (or_parts (out.0 == c && test (letter_of session clock out)) (list_any (λ (out : Out). out.0 == c && test (letter_of session clock out)) outs) q) refl (sent_there c session clock test outs)
  where
    go : (b : Bool) → ((out.0 == c && test (letter_of session clock out)) ≡ true) ⊎ (list_any (λ (out : Out). out.0 == c && test (letter_of session clock out)) outs ≡ true) → (out.0 == c) ≡ b → (list_any (λ (out : Out). out.0 == c && test (letter_of session clock out)) outs ≡ true → list_any test (letters_to c session clock outs) ≡ true) →
        list_any test (if b then letter_of session clock out ∷ letters_to c session clock outs else letters_to c session clock outs) ≡ true
    go true (inl here) e rest = or_left (test (letter_of session clock out)) (list_any test (letters_to c session clock outs)) (subst (λ b. (b && test (letter_of session clock out)) ≡ true) e here)
    go true (inr more) e rest = or_right (test (letter_of session clock out)) (list_any test (letters_to c session clock outs)) (rest more)
    go false (inl here) e rest = absurd (true≢false (sym here ∙ ap (λ b. b && test (letter_of session clock out)) e))
    go false (inr more) e rest = rest more

-- the value comes still, where what brings it does
pub comes_still : (sites others : List SiteState) (links after : List (List (List Letter))) (k m n : ℕ) (t : Txn) (ask : ℕ) (s : Site) →
    (list_any (is_to_read n k m t ask) (link links (s.0 + 1) 1) ≡ true → ValueComes others after k m n t ask s) → (list_any (brings_value m t ask) (link links (k + 2) (s.0 + 1)) ≡ true → ValueComes others after k m n t ask s) → (HasEnded sites s n → ValueComes others after k m n t ask s) →
    ValueComes sites links k m n t ask s → ValueComes others after k m n t ask s
comes_still sites others links after k m n t ask s f g h (told q) = f q
comes_still sites others links after k m n t ask s f g h (brought q) = g q
comes_still sites others links after k m n t ask s f g h (ended q) = h q

module _ (w : Workload) where
  pub data Standing (p : List Noted) (sites : List SiteState) (links : List (List (List Letter))) (k m : ℕ) (t : Txn) (ask : ℕ) (x : Item) (o : Option Site) (asks : List Message) : Type 0 where
    waiting : count_reads p t < ask → Standing p sites links k m t ask x o asks
    granted : asks ≡ [] → count_reads p t ≡ ask → IsUnderWay w p sites links k m t ask x o → Standing p sites links k m t ask x o asks

  abbrev pub StandsAt : List Noted → List SiteState → List (List (List Letter)) → ℕ → SiteState → Type 0
  StandsAt p sites links k state =
      state.up ≡ true → last_session p (site (k + 1)) ≡ state.session → (t : Txn) (r : Running) → running_of state t ≡ Some r → (ask : ℕ) (x : Item) (o : Option Site) → r.phase ≡ asking ask x o → has_ended p t ≡ false →
      Standing p sites links k state.session t ask x o (asks_of t (link links 1 (k + 2)))

  abbrev pub StandAll : List Noted → List SiteState → List (List (List Letter)) → Type 0
  StandAll p sites links = (k : ℕ) (state : SiteState) → slice_get sites k ≡ Some state → StandsAt p sites links k state

  -- what holds besides in each run
  pub record Below (world : World) : Type 0 where
    pub known : Known w world
    pub landed : Landed w world.servers world.links
    pub talks : TalkAll w world.servers world.links

  -- in the middle of a step and at its end
  pub under : (p : List Noted) (sites : List SiteState) (links : List (List (List Letter))) (k m : ℕ) (t : Txn) (ask : ℕ) (x : Item) (o : Option Site) (n : Noted) (s : Site) (of : ℕ) (fell : Bool) → last_read p t ≡ Some n → n.entry ≡ Read t x s → knows_site w s ≡ true → 1 ≤ of →
      session (vector w p) (site (k + 1)) ≡ m → Mid w k m t ask s n.at of (is_some o) fell p (link links (k + 2) 1) → (has_down_after p n.at s ≡ false → ValueComes sites links k m of t ask s) → IsUnderWay w p sites links k m t ask x o
  under p sites links k m t ask x o n s of fell last is known lives here mid comes = record {
    read = n;
    server = s;
    last = last;
    is = is;
    known = known;
    up = λ up. ap (nat_lt 0) (mid.stays up) ∙ positive of lives;
    comes = λ up. subst (λ z. ValueComes sites links k m z t ask s) (sym (mid.stays up)) (comes up);
    falls = λ gone. mid.falls here gone;
    serves = mid.serves;
  }
