-- The tables stand for the list with one more entry.
use Rattle.std.proofs.Common.{◌≡◌, ℕ, Bool, true, false, ◌&&◌, ◌||◌, if◌then◌else◌, List, [], ◌∷◌, ◌++◌, map, arith, refl, sym, ap, subst, ◌∙◌, append-nil, cond}
use Rattle.std.specs.Prelude.{Result, Ok, Err, OnOk, option_to_list, ⊤}
use Rattle.std.specs.List.{filter}
use Rattle.std.proofs.lemmas.Grind.{common_steps}
use Rattle.std.proofs.lemmas.List.Concat.{flat_map-append}
use Rattle.std.proofs.lemmas.List.Elements.{filter-append}
use Rattle.raid_base.specs.declared.names.Txn.{Txn}
use Rattle.raid_base.specs.declared.names.Item.{Item}
use Rattle.raid_base.specs.declared.entry.Entry.{Entry}
use Rattle.raid_base.specs.declared.entry.Entry.TheVariants.{Begin, Read, Wait, Commit, Abort, Ack, SwitchOn, SwitchEnd, Down, Up, Clear}
use Rattle.raid_base.specs.declared.entry.Noted.{Noted}
use Rattle.raid_base.specs.declared.entry.Cause.{Cause}
use Rattle.raid_base.specs.declared.entry.Act.{Act}
use Rattle.raid_base.specs.declared.names.Site.{Site}
use Rattle.raid_base.specs.declared.request.Request.{Request}
use Rattle.std.proofs.Common.{ℤ, None, ◌⊎◌, inl, inr}
use Rattle.raid_base.specs.declared.verdict.Kind.{Kind}
use Rattle.raid_base.specs.declared.verdict.Method.{Method}
use Rattle.raid_base.specs.Names.{is_txn, is_item}
use Rattle.raid_rules.specs.declared.conflict.Action.{Action}
use Rattle.raid_rules.specs.Entries.{is_begin_of, is_abort_of}
use Rattle.raid_rules.specs.History.{has_aborted, stamp}
use Rattle.raid_rules.specs.Conflict.{acts, commit_of, committed}
use Rattle.raid_rules.proofs.Listing.{committed_push}
use Rattle.raid_rules.proofs.Push.{number_of_push, same_txn}
use Rattle.raid_rules.proofs.Acts.{writes_kept, writes_left}
use Rattle.raid_conflict.specs.declared.tables.Tables.{Tables}
use Rattle.raid_conflict.specs.declared.tables.Mark.{Mark}
use Rattle.raid_conflict.specs.Listed.{noted_as}
use Rattle.raid_conflict.specs.Tables.{mark, writes_of, all_actions, Tells, Acted, Marked}

-- the actions of a list with one more entry
pub all_push : (view : List Noted) (n : Noted) → all_actions (view ++ n ∷ []) ≡ all_actions view ++ acts n n.entry
all_push view n = flat_map-append (λ m. acts m m.entry) view (n ∷ []) ∙ ap (λ l. all_actions view ++ l) (append-nil (acts n n.entry))

-- those of them that pass a test
those_push : (p : Action → Bool) (view : List Noted) (n : Noted) → filter p (all_actions (view ++ n ∷ [])) ≡ filter p (all_actions view) ++ filter p (acts n n.entry)
those_push p view n = ap (filter p) (all_push view n) ∙ filter-append p (all_actions view) (acts n n.entry)

pub aborted_push : (view : List Noted) (n : Noted) (u : Txn) → has_aborted (view ++ n ∷ []) u ≡ (has_aborted view u || is_abort_of u n.entry)
aborted_push view n u = grind (arith, common_steps)

-- no action at all comes with the entry
pub record Idle (e : Entry) : Type 0 where
  pub acts-not : (n : Noted) → acts n e ≡ []
  pub commits-not : commit_of e ≡ None

those_idle : (p : Action → Bool) (view : List Noted) (n : Noted) → Idle n.entry → filter p (all_actions view) ≡ filter p (all_actions (view ++ n ∷ []))
those_idle p view n i = sym (those_push p view n ∙ ap (λ l. filter p (all_actions view) ++ filter p l) (i.acts-not n) ∙ append-nil (filter p (all_actions view)))

committed_idle : (view : List Noted) (n : Noted) → Idle n.entry → committed (view ++ n ∷ []) ≡ committed view
committed_idle view n i = committed_push view n ∙ ap (λ o. committed view ++ map (λ c. c.0) (option_to_list o)) i.commits-not ∙ append-nil (committed view)

-- an entry that changes nothing
stands_idle : (t : Tables) (view : List Noted) (n : Noted) → Idle n.entry → ((u : Txn) → is_begin_of u n.entry ≡ false) → ((u : Txn) → is_abort_of u n.entry ≡ false) → Tells t view → Tells t (view ++ n ∷ [])
stands_idle t view n i begins aborts s = record {
  on = λ x. s.on x ∙ those_idle (λ a. is_item x a.item) view n i;
  writes = λ x. s.writes x ∙ those_idle (λ a. a.writes && is_item x a.item) view n i;
  own = λ u. s.own u ∙ those_idle (λ a. is_txn u a.by) view n i;
  stamps = λ u. s.stamps u ∙ grind (arith, common_steps, number_of_push (is_begin_of u) view n, begins u);
  aborted = λ u. s.aborted u ∙ grind (arith, common_steps, aborted_push view n u, aborts u);
  committed = s.committed ∙ sym (committed_idle view n i);
}

-- an entry that marks a transaction
stands_marked : (t r : Tables) (view : List Noted) (n : Noted) (of : Txn) (with : Mark) → Idle n.entry → Marked t r of with →
    ((u : Txn) → (if is_txn u of then with else mark t u).stamp ≡ stamp (view ++ n ∷ []) u) →
    ((u : Txn) → (if is_txn u of then with else mark t u).aborted ≡ has_aborted (view ++ n ∷ []) u) → Tells t view → Tells r (view ++ n ∷ [])
stands_marked t r view n of with i m stamps aborted s = record {
  on = λ x. m.on x ∙ s.on x ∙ those_idle (λ a. is_item x a.item) view n i;
  writes = λ x. m.writes x ∙ s.writes x ∙ those_idle (λ a. a.writes && is_item x a.item) view n i;
  own = λ u. m.own u ∙ s.own u ∙ those_idle (λ a. is_txn u a.by) view n i;
  stamps = λ u. ap (λ (k : Mark). k.stamp) (m.marks u) ∙ stamps u;
  aborted = λ u. ap (λ (k : Mark). k.aborted) (m.marks u) ∙ aborted u;
  committed = m.committed ∙ s.committed ∙ sym (committed_idle view n i);
}

-- an entry with actions
stands_acted : (t r : Tables) (view : List Noted) (n : Noted) (by : Txn) →
    ((u : Txn) → filter (λ a. is_txn u a.by) (acts n n.entry) ≡ (if is_txn u by then acts n n.entry else [])) →
    ((u : Txn) → is_begin_of u n.entry ≡ false) → ((u : Txn) → is_abort_of u n.entry ≡ false) →
    Acted t r by (acts n n.entry) → r.committed.items ≡ committed (view ++ n ∷ []) → Tells t view → Tells r (view ++ n ∷ [])
stands_acted t r view n by mine begins aborts a committed s = record {
  on = λ x. a.on x ∙ more (λ b. is_item x b.item) _ (s.on x);
  writes = λ x. a.writes x ∙ more (λ b. b.writes && is_item x b.item) _ (s.writes x);
  own = λ u. a.own u ∙ owned _ _ _ _ _ (is_txn u by) (mine u) (s.own u) (those_push (λ a. is_txn u a.by) view n);
  stamps = λ u. ap (λ (k : Mark). k.stamp) (a.marks u) ∙ s.stamps u ∙ grind (arith, common_steps, number_of_push (is_begin_of u) view n, begins u);
  aborted = λ u. ap (λ (k : Mark). k.aborted) (a.marks u) ∙ s.aborted u ∙ grind (arith, common_steps, aborted_push view n u, aborts u);
  committed = committed;
}
  where
    more : (p : Action → Bool) (had : List Action) → had ≡ filter p (all_actions view) → had ++ filter p (acts n n.entry) ≡ filter p (all_actions (view ++ n ∷ []))
    more p had h = ap (λ l. l ++ filter p (acts n n.entry)) h ∙ sym (those_push p view n)

    owned : (had was more new after : List Action) (b : Bool) → new ≡ (if b then more else []) → had ≡ was → after ≡ was ++ new → (if b then had ++ more else had) ≡ after
    owned had was more new after true e h p = ap (λ l. l ++ more) h ∙ ap (λ l. was ++ l) (sym e) ∙ sym p
    owned had was more new after false e h p = h ∙ sym (append-nil was) ∙ ap (λ l. was ++ l) (sym e) ∙ sym p

-- the writes of a Commit are its transaction's
writes_mine : (at : ℕ) (by u : Txn) (writes : List (Item × ℤ)) → filter (λ a. is_txn u a.by) (writes_of at by writes) ≡ (if is_txn u by then writes_of at by writes else [])
writes_mine at by u writes = go (is_txn u by) refl
  where
    go : (b : Bool) → is_txn u by ≡ b → filter (λ a. is_txn u a.by) (writes_of at by writes) ≡ (if b then writes_of at by writes else [])
    go true e = writes_kept (λ v. is_txn u v) at by writes e
    go false e = writes_left (λ v. is_txn u v) at by writes e

read_mine : (a : Action) (u by : Txn) → a.by ≡ by → filter (λ a. is_txn u a.by) (a ∷ []) ≡ (if is_txn u by then a ∷ [] else [])
read_mine a u by e = ap (λ v. cond (is_txn u v) (a ∷ []) []) e

-- whether an entry changes nothing
abbrev pub IsIdle : Entry → Type 0
IsIdle (Begin t home) = ⊥
IsIdle (Read t x site) = ⊥
IsIdle (Commit t request applied) = ⊥
IsIdle (Abort t cause act) = ⊥
IsIdle other = ⊤

pub is_idle : (e : Entry) →
    ((t : Txn) × (request : Request) × (e ≡ Wait t request)) ⊎ (((t : Txn) × (site : Site) × (e ≡ Ack t site)) ⊎ (((k : ℕ) × (kind : Kind) × (method : Method) × (e ≡ SwitchOn k kind method)) ⊎ (((k : ℕ) × (e ≡ SwitchEnd k)) ⊎ (((site : Site) × (e ≡ Down site)) ⊎ (((site : Site) × (session : ℕ) × (e ≡ Up site session)) ⊎ ((site : Site) × (x : Item) × (version : ℕ) × (e ≡ Clear site x version))))))) → IsIdle e
is_idle e (inl q) = subst IsIdle (sym q.2) tt
is_idle e (inr (inl q)) = subst IsIdle (sym q.2) tt
is_idle e (inr (inr (inl q))) = subst IsIdle (sym q.3) tt
is_idle e (inr (inr (inr (inl q)))) = subst IsIdle (sym q.1) tt
is_idle e (inr (inr (inr (inr (inl q))))) = subst IsIdle (sym q.1) tt
is_idle e (inr (inr (inr (inr (inr (inl q)))))) = subst IsIdle (sym q.2) tt
is_idle e (inr (inr (inr (inr (inr (inr q)))))) = subst IsIdle (sym q.3) tt

pub note_idle : (t : Tables) (e : Entry) → IsIdle e → (at : ℕ) (view : List Noted) (stamp : ℕ) → Tells t view → Tells t (view ++ noted_as at stamp e ∷ [])
note_idle t (Begin u home) i at view stamp s = absurd i
note_idle t (Read u x site) i at view stamp s = absurd i
note_idle t (Commit u request applied) i at view stamp s = absurd i
note_idle t (Abort u cause act) i at view stamp s = absurd i
note_idle t (Wait u request) i at view stamp s = stands_idle t view (noted_as at stamp (Wait u request)) (record { acts-not = λ n. refl; commits-not = refl }) (λ u. refl) (λ u. refl) s
note_idle t (Ack u site) i at view stamp s = stands_idle t view (noted_as at stamp (Ack u site)) (record { acts-not = λ n. refl; commits-not = refl }) (λ u. refl) (λ u. refl) s
note_idle t (SwitchOn k kind method) i at view stamp s = stands_idle t view (noted_as at stamp (SwitchOn k kind method)) (record { acts-not = λ n. refl; commits-not = refl }) (λ u. refl) (λ u. refl) s
note_idle t (SwitchEnd k) i at view stamp s = stands_idle t view (noted_as at stamp (SwitchEnd k)) (record { acts-not = λ n. refl; commits-not = refl }) (λ u. refl) (λ u. refl) s
note_idle t (Down site) i at view stamp s = stands_idle t view (noted_as at stamp (Down site)) (record { acts-not = λ n. refl; commits-not = refl }) (λ u. refl) (λ u. refl) s
note_idle t (Up site session) i at view stamp s = stands_idle t view (noted_as at stamp (Up site session)) (record { acts-not = λ n. refl; commits-not = refl }) (λ u. refl) (λ u. refl) s
note_idle t (Clear site x version) i at view stamp s = stands_idle t view (noted_as at stamp (Clear site x version)) (record { acts-not = λ n. refl; commits-not = refl }) (λ u. refl) (λ u. refl) s

-- a mark in which one field stays
same_aborted : (b : Bool) (with m : Mark) → (b ≡ true → with.aborted ≡ m.aborted) → (if b then with else m).aborted ≡ m.aborted
same_aborted true with m h = h refl
same_aborted false with m h = refl

same_stamp : (b : Bool) (with m : Mark) → (b ≡ true → with.stamp ≡ m.stamp) → (if b then with else m).stamp ≡ m.stamp
same_stamp true with m h = h refl
same_stamp false with m h = refl

-- each entry that changes the tables
module _ (t r : Tables) (e : Entry) (at : ℕ) where
  pub note_begin : (u : Txn) (home : Site) → e ≡ Begin u home → Marked t r u (record { stamp = at; aborted = (mark t u).aborted }) →
      (view : List Noted) (stamp : ℕ) → Tells t view → Tells r (view ++ noted_as at stamp e ∷ [])
  note_begin u home is m view stamp s =
      let n = noted_as at stamp (Begin u home) in
      subst (λ z. Tells r (view ++ noted_as at stamp z ∷ [])) (sym is)
      (stands_marked t r view n u _ (record { acts-not = λ n. refl; commits-not = refl }) m
      (λ w. grind (arith, common_steps, s.stamps w, number_of_push (is_begin_of w) view n))
      (λ w. same_aborted (is_txn w u) _ (mark t w) (λ q. ap (λ z. (mark t z).aborted) (same_txn u w q)) ∙ s.aborted w ∙ grind (arith, common_steps, aborted_push view n w)) s)

  pub note_abort : (u : Txn) (cause : Cause) (act : Act) → e ≡ Abort u cause act → Marked t r u (record { stamp = (mark t u).stamp; aborted = true }) →
      (view : List Noted) (stamp : ℕ) → Tells t view → Tells r (view ++ noted_as at stamp e ∷ [])
  note_abort u cause act is m view stamp s =
      let n = noted_as at stamp (Abort u cause act) in
      subst (λ z. Tells r (view ++ noted_as at stamp z ∷ [])) (sym is)
      (stands_marked t r view n u _ (record { acts-not = λ n. refl; commits-not = refl }) m
      (λ w. same_stamp (is_txn w u) _ (mark t w) (λ q. ap (λ z. (mark t z).stamp) (same_txn u w q)) ∙ s.stamps w ∙ grind (arith, common_steps, number_of_push (is_begin_of w) view n))
      (λ w. grind (arith, common_steps, s.aborted w, aborted_push view n w)) s)

  pub note_read : (u : Txn) (x : Item) (site : Site) → e ≡ Read u x site → Acted t r u (record { at = at; by = u; item = x; writes = false } ∷ []) → r.committed.items ≡ t.committed.items →
      (view : List Noted) (stamp : ℕ) → Tells t view → Tells r (view ++ noted_as at stamp e ∷ [])
  note_read u x site is a same view stamp s =
      let n = noted_as at stamp (Read u x site) in
      subst (λ z. Tells r (view ++ noted_as at stamp z ∷ [])) (sym is)
      (stands_acted t r view n u (λ w. read_mine (record { at = at; by = u; item = x; writes = false }) w u refl) (λ w. refl) (λ w. refl) a
      (same ∙ s.committed ∙ sym (committed_push view n ∙ append-nil (committed view))) s)

  pub note_commit : (u : Txn) (request : Request) (applied : List Site) → e ≡ Commit u request applied → Acted t r u (writes_of at u request.writes) → r.committed.items ≡ t.committed.items ++ u ∷ [] →
      (view : List Noted) (stamp : ℕ) → Tells t view → Tells r (view ++ noted_as at stamp e ∷ [])
  note_commit u request applied is a more view stamp s =
      let n = noted_as at stamp (Commit u request applied) in
      subst (λ z. Tells r (view ++ noted_as at stamp z ∷ [])) (sym is)
      (stands_acted t r view n u (λ w. writes_mine at u w request.writes) (λ w. refl) (λ w. refl) a
      (more ∙ ap (λ l. l ++ u ∷ []) s.committed ∙ sym (committed_push view n)) s)

-- a fact for a success from another
pub on_ok : {T E P Q : Type 0} → (r : Result T E) → (P → Q) → OnOk r P → OnOk r Q
on_ok (Ok v) f h = f h
on_ok (Err e) f h = h

-- two facts for a success
pub both_ok : {T E P Q R : Type 0} → (r : Result T E) → (P → Q → R) → OnOk r P → OnOk r Q → OnOk r R
both_ok (Ok v) f h k = f h k
both_ok (Err e) f h k = h
