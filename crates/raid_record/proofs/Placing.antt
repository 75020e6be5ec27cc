-- An entry that may be placed suits the tables, and what they say then.
use Rattle.std.proofs.Common.{◌≡◌, ℕ, zero, suc, ◌-◌, ◌<◌, ◌≤◌, nat_lt, nat_le, Bool, true, false, not, ◌&&◌, List, [], ◌∷◌, length, slice_index, slice_get, slice_index_or, Option, Some, None, if◌then◌else◌, true≢false, refl, ap, sym, subst, arith, ◌∙◌}
use Rattle.std.proofs.lemmas.Bool.{and_parts, eq-eqb, or_left}
use Rattle.raid_base.specs.declared.names.Txn.{Txn}
use Rattle.raid_base.specs.declared.names.Item.{Item}
use Rattle.raid_base.specs.declared.names.Site.{Site}
use Rattle.raid_base.specs.declared.request.Request.{Request}
use Rattle.raid_base.specs.declared.entry.Entry.{Entry}
use Rattle.raid_base.specs.declared.entry.Entry.TheVariants.{Begin, Read, Wait}
use Rattle.raid_base.specs.declared.entry.Noted.{Noted}
use Rattle.raid_base.specs.declared.verdict.Verdict.{Verdict}
use Rattle.raid_base.specs.declared.verdict.Verdict.TheVariants as verdicts
use Rattle.raid_base.specs.Names.{has_site}
use Rattle.raid_base.specs.Sites.{site, all_sites}
use Rattle.raid_workload.specs.declared.workload.Workload.{Workload}
use Rattle.raid_workload.specs.Parts.{home, placement}
use Rattle.raid_rules.specs.History.{noted, add, stamp}
use Rattle.raid_rules.specs.Sessions.{source_for, is_source, is_site_up, holders, is_copy_locked}
use Rattle.raid_rules.specs.Verdicts.{reading}
use Rattle.raid_rules.proofs.Sources.{has_kept}
use Rattle.raid_legal.specs.Seen.{vector, sources}
use Rattle.raid_legal.specs.InForce.{verdict}
use Rattle.raid_legal.specs.Answers.{served}
use Rattle.raid_legal.specs.Forced.{forced}
use Rattle.raid_legal.proofs.Left.{Compels, forced_compels}
use Rattle.raid_conflict.specs.declared.state.State.{State}
use Rattle.raid_conflict.specs.Live as graphs
use Rattle.raid_faillock.specs.Stands as faillocks
use Rattle.raid_faillock.specs.Stands.{names_sites, is_of_sites}
use Rattle.raid_serial.proofs.Facts.{some_is, none_is}
use Rattle.raid_placed.specs.Placed.{Placeable, Placed, Goes}
use Rattle.raid_placed.proofs.Orderly.{placeable_follows}
use Rattle.raid_placed.proofs.Named.{placed_names}
use Rattle.raid_placed.proofs.Waiting.{waits_once}
use Rattle.raid_placed.proofs.Growth.{placed_extends}
use Rattle.raid_record.specs.Keeps.{Stands, AreNext, is_fit}
use Rattle.raid_record.specs.Turns.{turn_waits, turn_left}
use Rattle.raid_record.specs.Tells.{Suits}
use Rattle.raid_record.proofs.Grown.{waiting_push, left_push, begun_push, waited_push}

-- a read that is answered by a Read is served by a source
served_from : (t : Txn) (x : Item) (o : Option Site) (v : Verdict) (s : Site) → served t x o v ≡ Read t x s → o ≡ Some s
served_from t x None v s e = absurd (cc e)
served_from t x (Some r) (verdicts.Reject why) s e = absurd (cc e)
served_from t x (Some r) verdicts.Wait s e = ap Some (read_at e)
  where
    read_at : Read t x r ≡ Read t x s → r ≡ s
    read_at q = cc q
served_from t x (Some r) verdicts.Grant s e = ap Some (read_at e)
  where
    read_at : Read t x r ≡ Read t x s → r ≡ s
    read_at q = cc q

first_there : (found : List Site) (s : Site) → slice_get found 0 ≡ Some s → has_site found s ≡ true
first_there [] s e = absurd (none_is s e)
first_there (r ∷ rs) s e = or_left _ _ (eq-eqb r.0 s.0 (ap (λ (z : Site). z.0) (some_is r s e)))

source_there : (found : List Site) (h s : Site) → source_for found h ≡ Some s → has_site found s ≡ true
source_there found h s e = go (has_site found h) refl e
  where
    go : (b : Bool) → has_site found h ≡ b → (if b then Some h else slice_get found 0) ≡ Some s → has_site found s ≡ true
    go true q k = subst (λ z. has_site found z ≡ true) (some_is h s k) q
    go false q k = first_there found s k

-- a session that isn't 0 is one of the vector's
within : (v : List ℕ) (k : ℕ) → nat_lt 0 (slice_index v k) ≡ true → k < length v
within [] k e = absurd (true≢false (sym e))
within (n ∷ v) zero e = omega arith
within (n ∷ v) (suc k) e = let h = within v k e in omega (arith, h)

numbered : (s : Site) → has_site all_sites s ≡ true → 1 ≤ s.0
numbered s e = from s.0 e
  where
    from : (k : ℕ) → has_site all_sites (site k) ≡ true → 1 ≤ k
    from zero q = absurd (true≢false (sym q))
    from (suc k) q = omega arith

source_within : (w : Workload) (p : List Noted) (x : Item) (s : Site) → length (vector w p) ≡ w.sites → has_site (sources w p x) s ≡ true → is_of_sites w.sites s ≡ true
source_within w p x s size e =
    let test : Site → Bool = is_source w.sites (placement w) p x in
    let both = and_parts (test s) (has_site all_sites s) (sym (has_kept test s all_sites) ∙ e) in
    let held = and_parts (has_site (holders (placement w) x) s && is_site_up (vector w p) s) (not (is_copy_locked p s x)) both.0 in
    let up = and_parts (has_site (holders (placement w) x) s) (is_site_up (vector w p) s) held.0 in
    let below = within (vector w p) (s.0 - 1) up.1 in
    let least = numbered s both.1 in
    bounds s.0 w.sites least (omega (arith, below, least, size))
  where
    bounds : (k n : ℕ) → 1 ≤ k → k ≤ n → (nat_le 1 k && nat_le k n) ≡ true
    bounds k n least most = grind (arith, least, most)

read_site : (w : Workload) (p : List Noted) (t : Txn) (x : Item) (s : Site) → length (vector w p) ≡ w.sites → Placeable w p (Read t x s) → is_of_sites w.sites s ≡ true
read_site w p t x s size able = go (forced w p) refl able
  where
    go : (o : Option Entry) → forced w p ≡ o → Goes w p (Read t x s) o → is_of_sites w.sites s ≡ true
    go None q g = source_within w p x s size (source_there (sources w p x) (home w t) s (served_from t x (source_for (sources w p x) (home w t)) (verdict w p (reading t (stamp p t) x)) s g.1))
    go (Some must) q g = absurd (subst (Compels w p) (sym g) (forced_compels w p must q))

fits : (w : Workload) (h : List Entry) (e : Entry) → Placed w h → Placeable w (noted h) e → length (vector w (noted h)) ≡ w.sites → is_fit w (noted h) e ≡ true
fits w h (Begin t s) placed able size = placed_names w h (Begin t s) t placed able refl
fits w h (Read t x s) placed able size = read_site w (noted h) t x s size able
fits w h (Wait t request) placed able size = ap not (waits_once w (noted h) t request able)
fits w h other placed able size = refl

-- an entry that may be placed suits the tables
pub suits : (w : Workload) (h : List Entry) (e : Entry) (f : faillocks.Parts) → Placed w h → Placeable w (noted h) e → names_sites w.sites e ≡ true → faillocks.Stands f w.sites (placement w) (noted h) → Suits w (noted h) e
suits w h e f placed able sites locks = record {
  fit = fits w h e placed able (sym (ap length locks.vector) ∙ locks.count);
  follows = placeable_follows w (noted h) e able;
  extends = placed_extends w h e placed able;
  sites = sites;
}

-- the tables after an entry that suits them
pub stands_push : (w : Workload) (p : List Noted) (e : Entry) (g g' : State) (f f' : faillocks.Parts) (rs rs' : List (Txn × Request)) (ns ns' : List ℕ) (ms ms' : List Bool) →
    Stands w g f rs ns ms p → Suits w p e →
    graphs.Stands g' (add p e) → faillocks.Stands f' w.sites (placement w) (add p e) → rs' ≡ turn_waits rs e → AreNext w ns' (add p e) →
    ((t : Txn) → slice_index_or ms' t.0 false ≡ turn_left w t (slice_index_or ms t.0 false) e) →
    Stands w g' f' rs' ns' ms' (add p e)
stands_push w p e g g' f f' rs rs' ns ns' ms ms' o s graph locks waits nexts left = record {
  graph = graph;
  locks = locks;
  waits = waits ∙ ap (λ z. turn_waits z e) o.waits ∙ sym (waiting_push p e o.waited s.follows);
  nexts = nexts;
  left = λ t. left t ∙ ap (λ b. turn_left w t b e) (o.left t) ∙ sym (left_push w p e t s.extends.above);
  begun = begun_push w p e s.fit o.begun;
  waited = waited_push p e s.follows o.waited;
}
