-- What the tables say of a history with one more entry, and what they tell of it.
use Rattle.std.proofs.Common.{◌≡◌, ℕ, ℤ, zero, suc, pos, ◌+◌, ◌*◌, ◌<◌, ◌≤◌, ◌==◌, nat_lt, Bool, true, false, ◌&&◌, ◌||◌, List, [], ◌∷◌, map, length, Option, Some, None, unwrap_or, if◌then◌else◌, true≢false, length-append, refl, ap, sym, subst, arith, ◌∙◌}
use Rattle.std.specs.Prelude.{slice_get, slice_index_or, Result, Ok, Err, IfOk}
use Rattle.std.specs.Option.{option_map_or}
use Rattle.std.proofs.lemmas.Grind.{common_steps}
use Rattle.std.proofs.lemmas.Bool.{eqb-true}
use Rattle.std.proofs.lemmas.List.Folds.{list_any-append}
use Rattle.raid_base.specs.declared.names.Txn.{Txn}
use Rattle.raid_base.specs.declared.names.Item.{Item}
use Rattle.raid_base.specs.declared.names.Site.{Site}
use Rattle.raid_base.specs.declared.entry.Entry.{Entry}
use Rattle.raid_base.specs.declared.entry.Entry.TheVariants.{Read, Down, Up}
use Rattle.raid_base.specs.declared.entry.Noted.{Noted}
use Rattle.raid_base.specs.Find.{first_of}
use Rattle.raid_base.specs.Names.{is_txn, is_item, is_site, has_txn}
use Rattle.raid_program.specs.Run.{Answers, put, given, outcome_of}
use Rattle.raid_workload.specs.declared.workload.Workload.{Workload}
use Rattle.raid_workload.specs.declared.workload.ItemLine.{ItemLine}
use Rattle.raid_workload.specs.Parts.{count_from, txns, program, initial}
use Rattle.raid_rules.specs.Entries.{is_read, is_down, is_up, reads_item, writes_of}
use Rattle.raid_rules.specs.History.{noted, add, next, value, number_of}
use Rattle.raid_rules.specs.Sessions.{last_session, turn_last}
use Rattle.raid_rules.proofs.Push.{noted_push, fold_seeing_push, number_of_push}
use Rattle.raid_rules.proofs.Places.{by_last}
use Rattle.raid_legal.specs.Seen.{value_of, seen, outcome, has_down_after}
use Rattle.raid_legal.specs.Legal.{last_read, downs, ups, is_lost, is_asked, wants_item}
use Rattle.raid_seen.specs.declared.outages.Outage.{Outage}
use Rattle.raid_seen.specs.declared.readings.LastRead.{LastRead}
use Rattle.raid_seen.specs.declared.readings.Reading.{Reading}
use Rattle.raid_seen.specs.Tables.{outage_of, turn_outage, answers_of, turn_answers, latest_of, turn_latest, is_lapsed, AreValues, IsLatest, AreReadings, AreOutages}

-- the first values of the items, by the list of them
pub initial_in : (lines : List ItemLine) (k : ℕ) → slice_index_or (map (λ (line : ItemLine). line.value) lines) k (pos 0) ≡ option_map_or (λ (line : ItemLine). line.value) (slice_get lines k) (pos 0)
initial_in [] zero = refl
initial_in [] (suc k) = refl
initial_in (line ∷ lines) zero = refl
initial_in (line ∷ lines) (suc k) = initial_in lines k

-- a workload with a transaction has a program
pub some_programs : (w : Workload) (t : Txn) → has_txn (txns w) t ≡ true → 0 < length w.programs
some_programs w t h = go (length w.programs) h
  where
    go : (n : ℕ) → has_txn (map (λ k. let t : Txn = record { 0 = k } in t) (count_from 1 (n * (w.restarts + 1)))) t ≡ true → 0 < n
    go zero q =
        let none : 0 * (w.restarts + 1) ≡ 0 = omega arith in
        absurd (true≢false (sym q ∙ ap (λ m. has_txn (map (λ k. let t : Txn = record { 0 = k } in t) (count_from 1 m)) t) none))
    go (suc n) q = omega arith

-- what a transaction has seen is what the rows have
pub same_outcome : (w : Workload) (h : List Entry) (rows : List Reading) (t : Txn) → AreReadings w rows (noted h) → outcome w (noted h) t ≡ outcome_of (program w t) (given (answers_of rows t))
same_outcome w h rows t r =
    let q : seen w (noted h) t ≡ given (answers_of rows t) = λ i x. sym (r.answers t x) i in
    ap (λ (s : Answers). outcome_of (program w t) s) q

-- the values after one more entry
pub values_push : (w : Workload) (values more : List ℤ) (p : List Noted) (e : Entry) →
    ((x : Item) → slice_index_or more x.0 (pos 0) ≡ unwrap_or (first_of x (writes_of e)) (slice_index_or values x.0 (pos 0))) → AreValues w values p → AreValues w more (add p e)
values_push w values more p e step are x =
    let push : value (initial w x) (add p e) x ≡ unwrap_or (first_of x (writes_of e)) (value (initial w x) p x) = grind (arith, common_steps) in
    step x ∙ ap (λ v. unwrap_or (first_of x (writes_of e)) v) (are x) ∙ sym push

-- a value that was put
put_same : (ps : List (Item × ℤ)) (x y : Item) (v : ℤ) → first_of x (put ps y v) ≡ (if is_item x y then Some v else first_of x ps)
put_same [] x y v = refl
put_same (p ∷ ps) x y v = grind (arith, common_steps, put_same ps x y v)

seen_push : (w : Workload) (p : List Noted) (e : Entry) (t : Txn) (x : Item) → seen w (add p e) t x ≡ (if reads_item t x e then Some (value_of w p x) else seen w p t x)
seen_push w p e t x = fold_seeing_push (λ before v n. if reads_item t x n.entry then Some (value_of w before x) else v) None p (next p e)

read_push : (p : List Noted) (e : Entry) (t : Txn) → last_read (add p e) t ≡ (if is_read (λ u x s. is_txn t u) e then Some (next p e) else last_read p t)
read_push p e t = grind (arith, common_steps)

answers_more : (w : Workload) (values : List ℤ) (p : List Noted) (e : Entry) (t : Txn) (x : Item) (ps : List (Item × ℤ)) → AreValues w values p → first_of x ps ≡ seen w p t x →
    first_of x (turn_answers values t ps e) ≡ (if reads_item t x e then Some (value_of w p x) else seen w p t x)
answers_more w values p (Read u y s) t x ps are same = go (is_txn t u)
  where
    here : (b : Bool) → is_item x y ≡ b → (if b then Some (slice_index_or values y.0 (pos 0)) else first_of x ps) ≡ (if b then Some (value_of w p x) else seen w p t x)
    here true q = ap Some (are y ∙ ap (λ z. value_of w p z) (same_item y x q))
      where
        same_item : (a b : Item) → (a.0 == b.0) ≡ true → a ≡ b
        same_item a b e = ap (λ k. let r : Item = record { 0 = k } in r) (eqb-true a.0 b.0 e)
    here false q = same

    go : (b : Bool) → first_of x (if b then put ps y (slice_index_or values y.0 (pos 0)) else ps) ≡ (if b && is_item x y then Some (value_of w p x) else seen w p t x)
    go true = put_same ps x y (slice_index_or values y.0 (pos 0)) ∙ here (is_item x y) refl
    go false = same
answers_more w values p other t x ps are same = same

latest_more : (p : List Noted) (e : Entry) (number : ℕ) (t : Txn) (latest : Option LastRead) → number ≡ length p + 1 → IsLatest latest (last_read p t) →
    IsLatest (turn_latest number t latest e) (if is_read (λ u x s. is_txn t u) e then Some (next p e) else last_read p t)
latest_more p (Read u y s) number t latest same is = go (is_txn t u)
  where
    go : (b : Bool) → IsLatest (if b then Some (record { item = y; site = s; number = number }) else latest) (if b then Some (next p (Read u y s)) else last_read p t)
    go true = record { by = u; entry = refl; number = sym same }
    go false = is
latest_more p other number t latest same is = is

-- what was read after one more entry
pub readings_push : (w : Workload) (values : List ℤ) (rows more : List Reading) (p : List Noted) (e : Entry) (number : ℕ) → number ≡ length p + 1 → AreValues w values p →
    ((t : Txn) → answers_of more t ≡ turn_answers values t (answers_of rows t) e) → ((t : Txn) → latest_of more t ≡ turn_latest number t (latest_of rows t) e) → AreReadings w rows p → AreReadings w more (add p e)
readings_push w values rows more p e number same are answers latest r = record {
  answers = λ t x. ap (first_of x) (answers t) ∙ answers_more w values p e t x (answers_of rows t) are (r.answers t x) ∙ sym (seen_push w p e t x);
  latest = λ t. subst (λ (o : Option LastRead). IsLatest o (last_read (add p e) t)) (sym (latest t)) (subst (IsLatest (turn_latest number t (latest_of rows t) e)) (sym (read_push p e t)) (latest_more p e number t (latest_of rows t) same (r.latest t)));
}

downs_more : (p : List Noted) (e : Entry) (s : Site) → downs (add p e) s ≡ (if is_down (is_site s) e then downs p s + 1 else downs p s)
downs_more p e s = grind (arith, common_steps)

ups_more : (p : List Noted) (e : Entry) (s : Site) → ups (add p e) s ≡ (if is_up (is_site s) e then ups p s + 1 else ups p s)
ups_more p e s = grind (arith, common_steps)

session_more : (p : List Noted) (e : Entry) (s : Site) → last_session (add p e) s ≡ turn_last s (last_session p s) e
session_more p e s = grind (arith, common_steps)

falls_more : (p : List Noted) (e : Entry) (s : Site) → number_of (is_down (is_site s)) (add p e) ≡ (if is_down (is_site s) e then length p + 1 else number_of (is_down (is_site s)) p)
falls_more p e s = number_of_push (is_down (is_site s)) p (next p e)

-- how the sites have fared after one more entry
pub outages_push : (rows more : List Outage) (p : List Noted) (e : Entry) (number : ℕ) → number ≡ length p + 1 → ((s : Site) → outage_of more s ≡ turn_outage number s (outage_of rows s) e) → AreOutages rows p → AreOutages more (add p e)
outages_push rows more p e number same step o = record {
  downs = λ s. ap (λ (z : Outage). z.downs) (step s) ∙ down e s (outage_of rows s) (o.downs s) ∙ sym (downs_more p e s);
  ups = λ s. ap (λ (z : Outage). z.ups) (step s) ∙ up e s (outage_of rows s) (o.ups s) ∙ sym (ups_more p e s);
  sessions = λ s. ap (λ (z : Outage). z.session) (step s) ∙ session e s (outage_of rows s) (o.sessions s) ∙ sym (session_more p e s);
  falls = λ s. ap (λ (z : Outage). z.fell) (step s) ∙ fall e s (outage_of rows s) (o.falls s) ∙ sym (falls_more p e s);
}
  where
    down : (e : Entry) (s : Site) (z : Outage) → z.downs ≡ downs p s → (turn_outage number s z e).downs ≡ (if is_down (is_site s) e then downs p s + 1 else downs p s)
    down (Down r) s z h = grind (arith, h)
    down (Up r n) s z h = grind (arith, h)
    down other s z h = h

    up : (e : Entry) (s : Site) (z : Outage) → z.ups ≡ ups p s → (turn_outage number s z e).ups ≡ (if is_up (is_site s) e then ups p s + 1 else ups p s)
    up (Down r) s z h = grind (arith, h)
    up (Up r n) s z h = grind (arith, h)
    up other s z h = h

    session : (e : Entry) (s : Site) (z : Outage) → z.session ≡ last_session p s → (turn_outage number s z e).session ≡ turn_last s (last_session p s) e
    session (Down r) s z h = grind (arith, h)
    session (Up r n) s z h = grind (arith, h)
    session other s z h = h

    fall : (e : Entry) (s : Site) (z : Outage) → z.fell ≡ number_of (is_down (is_site s)) p → (turn_outage number s z e).fell ≡ (if is_down (is_site s) e then length p + 1 else number_of (is_down (is_site s)) p)
    fall (Down r) s z h = grind (arith, h, same)
    fall (Up r n) s z h = grind (arith, h)
    fall other s z h = h

-- the stops of a site after a number are told by the last one
record AreTold (p : List Noted) (s : Site) : Type 0 where
  after : (k : ℕ) → has_down_after p k s ≡ nat_lt k (number_of (is_down (is_site s)) p)
  within : number_of (is_down (is_site s)) p ≤ length p

told_more : (p : List Noted) (e : Entry) (s : Site) → AreTold p s → AreTold (add p e) s
told_more p e s told = record {
  after = λ k. list_any-append (λ n. nat_lt k n.at && is_down (is_site s) n.entry) p (next p e ∷ []) ∙ go k (is_down (is_site s) e) (has_down_after p k s) (number_of (is_down (is_site s)) p) (told.after k) told.within
      ∙ ap (λ m. nat_lt k m) (sym (falls_more p e s));
  within = subst (λ m. m ≤ length (add p e)) (sym (falls_more p e s)) (short (is_down (is_site s) e));
}
  where
    go : (k : ℕ) (b c : Bool) (m : ℕ) → c ≡ nat_lt k m → m ≤ length p → (c || ((nat_lt k (length p + 1) && b) || false)) ≡ nat_lt k (if b then length p + 1 else m)
    go k true c m q below = grind (arith, q, below)
    go k false c m q below = grind (arith, q, below)

    short : (b : Bool) → (if b then length p + 1 else number_of (is_down (is_site s)) p) ≤ length (add p e)
    short true = omega (arith, length-append p (next p e ∷ []))
    short false = omega (arith, told.within, length-append p (next p e ∷ []))

told_of : (s : Site) (h : List Entry) → AreTold (noted h) s
told_of s = by_last (λ h. AreTold (noted h) s) (record { after = λ k. grind arith; within = omega arith }) (λ h e told. subst (λ p. AreTold p s) (sym (noted_push h e)) (told_more (noted h) e s told))

-- a Read that may be lost, by the rows
pub lost_is : (w : Workload) (h : List Entry) (rows : List Reading) (outs : List Outage) (t : Txn) (x : Item) → AreReadings w rows (noted h) → AreOutages outs (noted h) →
    option_map_or (is_lapsed outs x) (latest_of rows t) false ≡ is_lost (noted h) t x
lost_is w h rows outs t x r o = go (latest_of rows t) (last_read (noted h) t) (r.latest t)
  where
    go : (latest : Option LastRead) (last : Option Noted) → IsLatest latest last →
        option_map_or (is_lapsed outs x) latest false ≡ option_map_or (λ n. is_read (λ u y s. is_item x y && has_down_after (noted h) n.at s) n.entry) last false
    go None None q = refl
    go None (Some n) q = absurd q
    go (Some read) None q = absurd q
    go (Some read) (Some n) q =
        ap (λ b. is_item x read.item && b) (ap (λ m. nat_lt read.number m) (o.falls read.site) ∙ sym ((told_of read.site h).after read.number) ∙ ap (λ k. has_down_after (noted h) k read.site) (sym q.number))
        ∙ ap (is_read (λ u y s. is_item x y && has_down_after (noted h) n.at s)) (sym q.entry)

-- what may be asked
pub asked_lost : (w : Workload) (h : List Entry) (rows : List Reading) (outs : List Outage) (t : Txn) (x : Item) → option_map_or (is_lapsed outs x) (latest_of rows t) false ≡ true → AreReadings w rows (noted h) → AreOutages outs (noted h) →
    true ≡ is_asked w (noted h) t x
asked_lost w h rows outs t x lost r o = let q = lost_is w h rows outs t x r o in grind (arith, common_steps, q, lost)

pub asked_wanted : (w : Workload) (h : List Entry) (rows : List Reading) (outs : List Outage) (t : Txn) (x : Item) (b : Bool) → option_map_or (is_lapsed outs x) (latest_of rows t) false ≡ false → AreReadings w rows (noted h) → AreOutages outs (noted h) →
    b ≡ wants_item x (outcome w (noted h) t).end → b ≡ is_asked w (noted h) t x
asked_wanted w h rows outs t x b lost r o same = let q = lost_is w h rows outs t x r o in grind (arith, common_steps, q, lost, same)

-- what holds of an answer, if there is one
pub if_ok : {T E : Type 0} (P Q : T → Type 0) (r : Result T E) → ((v : T) → P v → Q v) → IfOk r P → IfOk r Q
if_ok P Q (Ok v) f h = f v h
if_ok P Q (Err e) f h = h
