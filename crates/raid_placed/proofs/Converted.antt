-- What a SwitchOn makes of the controllers in force: whoever runs has all its Begins and Reads in the old view, so what is carried from that is the new one's view.
use Rattle.std.proofs.Common.{◌≡◌, ℕ, ◌+◌, ◌<◌, ◌≤◌, ◌⊎◌, inl, inr, ◌||◌, ◌&&◌, ◌==◌, append-nil, Bool, true, false, not, nat_lt, if◌then◌else◌, cond, List, [], ◌∷◌, ◌++◌, length, arith, sym, ◌∙◌, ap, subst, refl, Option, Some, None}
use Rattle.std.specs.List.{filter, list_any}
use Rattle.std.proofs.lemmas.Bool.{true≢false, or_left, and_parts, and_from, eqb-true}
use Rattle.std.proofs.lemmas.Grind.{common_steps}
use Rattle.raid_base.specs.declared.names.Txn.{Txn}
use Rattle.raid_base.specs.declared.entry.Entry.{Entry}
use Rattle.raid_base.specs.declared.entry.Entry.TheVariants.{Begin, Read, Commit, Abort, SwitchOn, SwitchEnd}
use Rattle.raid_base.specs.declared.entry.Noted.{Noted}
use Rattle.raid_base.specs.declared.verdict.Kind.{Kind}
use Rattle.raid_base.specs.declared.verdict.Method.{Method}
use Rattle.raid_base.specs.declared.verdict.Method.TheVariants.{Generic, Convert, Suffix}
use Rattle.raid_base.specs.Names.{is_txn, has_txn}
use Rattle.raid_workload.specs.declared.workload.Workload.{Workload}
use Rattle.raid_rules.specs.Entries.{is_begin, is_read, is_begin_of, is_end_of}
use Rattle.raid_rules.specs.History.{noted, add, next, stamp, has_begun, has_ended, is_running}
use Rattle.raid_rules.specs.Order.{is_of, IsInOrder, MayNote}
use Rattle.raid_rules.specs.Views.{View, is_in, view_of}
use Rattle.raid_rules.proofs.Push.{same_txn}
use Rattle.raid_rules.proofs.ViewsOf.{view_push}
use Rattle.std.proofs.lemmas.List.Elements.{filter-append, All-head}
use Rattle.raid_legal.specs.Seen.{running}
use Rattle.raid_legal.specs.InForce.{InForce, in_force, is_over, is_tied, turn, turn_on, turn_end, past, newer, controllers, off_list, survivors}
use Rattle.raid_legal.specs.Forced.{forced}
use Rattle.raid_control.specs.Carried.{is_start, carried}
use Rattle.raid_switch.specs.Force.{without}
use Rattle.raid_serial.proofs.Facts.{Fact, Quiet, some_is, none_is, not_off}
use Rattle.raid_serial.proofs.Force.{in_force_push}
use Rattle.raid_serial.proofs.Grants.{has_split}
use Rattle.raid_serial.proofs.Ordered.{Ordered, all_has}
use Rattle.raid_serial.proofs.Real.{lt_true, true_lt, filter_has, has_filter}
use Rattle.raid_serial.proofs.Tamed.{find_none, keep_txn}
use Rattle.raid_serial.proofs.Translate.{Has, not_true, cases_true, has_any, any_has, eq_self}
use Rattle.raid_serial.proofs.Views.{same_tests}
use Rattle.raid_placed.specs.Placed.{Placed, AreKnown}
use Rattle.raid_placed.specs.Turned.{older, turned}
use Rattle.raid_placed.proofs.Sent.{placed_fact, by_facts, forced_placeable}
use Rattle.raid_placed.proofs.Orderly.{placed_ordered, placed_known, known_running, txn_kept, txn_among}
use Rattle.raid_placed.proofs.Growth.{Bounds, placed_bounds, grow_view, is_in_next, alone_next, alone_controllers, placed_may_note}

-- the entry is a Begin or a Read of the transaction
abbrev starts : Txn → Noted → Bool
starts t n = is_start (is_txn t) n.entry

-- what holds of the Begins, Reads and ends of transactions, given what is in force
pub record Held (f : InForce) (p : List Noted) : Type 0 where
  pub held : (t : Txn) (m : Noted) → Has m p → starts t m ≡ true → is_running p t ≡ true → has_txn f.off t ≡ false → is_in f.view m ≡ true
  pub ends : (t : Txn) (x : Noted) → has_txn f.view.keep t ≡ true → Has x p → is_end_of t x.entry ≡ true → f.view.cut < x.at
  pub switch : (c : Kind × ℕ) (t : Txn) (m : Noted) → f.next ≡ Some c → Has m p → starts t m ≡ true → m.at ≡ c.1 → ⊥
  pub after : (t : Txn) (m x : Noted) → Has m p → Has x p → starts t m ≡ true → is_end_of t x.entry ≡ true → m.at < x.at

-- entries by their sort
start_of : (e : Entry) (t : Txn) → is_start (is_txn t) e ≡ true → is_of t e ≡ true
start_of (Begin u home) t q = or_left_only (is_txn t u) q
  where
    or_left_only : (b : Bool) → (b || false) ≡ true → b ≡ true
    or_left_only true q = refl
    or_left_only false q = q
start_of (Read u x site) t q = q
start_of other t q = absurd (true≢false (sym q))

start_no_end : (e : Entry) (t u : Txn) → is_start (is_txn t) e ≡ true → is_end_of u e ≡ true → ⊥
start_no_end (Begin v home) t u q r = true≢false (sym r)
start_no_end (Read v x site) t u q r = true≢false (sym r)
start_no_end other t u q r = true≢false (sym q)

begin_not : (w : Workload) (p : List Noted) (e : Entry) (t : Txn) → Fact w p e → has_begun p t ≡ true → is_begin_of t e ≡ false
begin_not w p (Begin u home) t f b = not_true (is_txn t u) (λ q. true≢false (sym b ∙ subst (λ z. has_begun p z ≡ false) (same_txn u t q) f.1))
begin_not w p other t f b = refl

-- who has begun and runs after the entry ran before it
ran : (p : List Noted) (n : Noted) (t : Txn) → is_begin_of t n.entry ≡ false → is_running (p ++ n ∷ []) t ≡ true → is_running p t ≡ true
ran p n t none runs = grind (arith, common_steps, none, runs)

not_both : (p : List Noted) (t : Txn) → is_running p t ≡ true → has_ended p t ≡ true → ⊥
not_both p t run ended = true≢false (sym (and_parts (has_begun p t) (not (has_ended p t)) run).1 ∙ ap not ended)

or_parts : (b c d : Bool) → (b || c || d) ≡ true → (b ≡ true) ⊎ ((c || d) ≡ true)
or_parts true c d e = inl refl
or_parts false c d e = inr e

-- the Begins and Reads in a view
kept_start : (keep : List Txn) (e : Entry) (t : Txn) → is_start (is_txn t) e ≡ true → has_txn keep t ≡ true → (is_begin (has_txn keep) e || is_read (λ u x s. has_txn keep u) e) ≡ true
kept_start keep (Begin u home) t q k = or_left (has_txn keep u) false (subst (λ z. has_txn keep z ≡ true) (sym (same_txn u t (start_of (Begin u home) t q))) k)
kept_start keep (Read u x site) t q k = subst (λ z. has_txn keep z ≡ true) (sym (same_txn u t q)) k
kept_start keep other t q k = absurd (true≢false (sym q))

start_kept : (keep : List Txn) (e : Entry) (t : Txn) → is_start (is_txn t) e ≡ true → (is_begin (has_txn keep) e || is_read (λ u x s. has_txn keep u) e) ≡ true → has_txn keep t ≡ true
start_kept keep (Begin u home) t q k = subst (λ z. has_txn keep z ≡ true) (same_txn u t (start_of (Begin u home) t q)) (only (has_txn keep u) k)
  where
    only : (b : Bool) → (b || false) ≡ true → b ≡ true
    only true q = refl
    only false q = q
start_kept keep (Read u x site) t q k = subst (λ z. has_txn keep z ≡ true) (same_txn u t q) k
start_kept keep other t q k = absurd (true≢false (sym q))

past_or_kept : (b c d : Bool) → (b ≡ true) ⊎ ((c || d) ≡ true) → (b || c || d) ≡ true
past_or_kept true c d r = refl
past_or_kept false c d (inl r) = absurd (true≢false (sym r))
past_or_kept false c d (inr r) = r

is_in_of : (v : View) (m : Noted) (t : Txn) → starts t m ≡ true → (v.cut < m.at) ⊎ (has_txn v.keep t ≡ true) → is_in v m ≡ true
is_in_of v m t q r = past_or_kept (nat_lt v.cut m.at) (is_begin (has_txn v.keep) m.entry) (is_read (λ u x s. has_txn v.keep u) m.entry) (elim r [ inl l ↦ inl (lt_true v.cut m.at l) | inr k ↦ inr (kept_start v.keep m.entry t q k) ])

is_in_past : (v : View) (m : Noted) → v.cut < m.at → is_in v m ≡ true
is_in_past v m l = past_or_kept (nat_lt v.cut m.at) (is_begin (has_txn v.keep) m.entry) (is_read (λ u x s. has_txn v.keep u) m.entry) (inl (lt_true v.cut m.at l))

of_is_in : (v : View) (m : Noted) (t : Txn) → starts t m ≡ true → is_in v m ≡ true → (v.cut < m.at) ⊎ (has_txn v.keep t ≡ true)
of_is_in v m t q i = elim (or_parts (nat_lt v.cut m.at) (is_begin (has_txn v.keep) m.entry) (is_read (λ u x s. has_txn v.keep u) m.entry) i) [ inl l ↦ inl (true_lt v.cut m.at l) | inr k ↦ inr (start_kept v.keep m.entry t q k) ]

any_txn : (f : Txn → Bool) (xs : List Txn) (t : Txn) → list_any f xs ≡ false → has_txn xs t ≡ true → f t ≡ false
any_txn f [] t none h = absurd (true≢false (sym h))
any_txn f (x ∷ xs) t none h = here (is_txn t x) refl (any_txn f xs t (parts (f x) (list_any f xs) none).1) h
  where
    parts : (b c : Bool) → (b || c) ≡ false → (b ≡ false) × (c ≡ false)
    parts true c q = absurd (true≢false q)
    parts false c q = (refl, q)

    here : (b : Bool) → is_txn t x ≡ b → (has_txn xs t ≡ true → f t ≡ false) → (b || has_txn xs t) ≡ true → f t ≡ false
    here true q rest h = subst (λ z. f z ≡ false) (same_txn x t q) (parts (f x) (list_any f xs) none).0
    here false q rest h = rest h

module _ (w : Workload) (p : List Noted) (o : Ordered p) (known : AreKnown w p) (b : Bounds (in_force w p) (length p)) (h : Held (in_force w p) p) where
  abbrev force : InForce
  force = in_force w p

  seen_begun : (t : Txn) (m : Noted) → Has m p → is_of t m.entry ≡ true → has_begun p t ≡ true
  seen_begun t m i q = o.whole t (has_any (λ n. is_of t n.entry) p m i q)

  -- who starts in the prefix, and runs after the entry, ran before it
  old_runs : (e : Entry) → Fact w p e → (t : Txn) (m : Noted) → Has m p → starts t m ≡ true → is_running (add p e) t ≡ true → is_running p t ≡ true
  old_runs e f t m i s run = ran p (next p e) t (begin_not w p e t f (seen_begun t m i (start_of m.entry t s))) run

  low : (m : Noted) → Has m p → m.at < length p + 1
  low m i = all_has (λ m. m.at < length p + 1) p m o.bounded i

  new_start : (e : Entry) → Fact w p e → (t : Txn) (x : Noted) → is_start (is_txn t) e ≡ true → Has x p → is_end_of t x.entry ≡ true → ⊥
  new_start (Begin u home) f t x s i q =
      let fresh : has_begun p t ≡ false = subst (λ z. has_begun p z ≡ false) (same_txn u t (start_of (Begin u home) t s)) f.1 in
      true≢false (sym (seen_begun t x i (end_of x.entry q)) ∙ fresh)
    where
      end_of : (e : Entry) → is_end_of t e ≡ true → is_of t e ≡ true
      end_of (Commit v request applied) q = grind (arith, common_steps, q)
      end_of (Abort v cause act) q = q
      end_of other q = absurd (true≢false (sym q))
  new_start (Read u y site) f t x s i q = not_both p t (subst (λ z. is_running p z ≡ true) (same_txn u t s) f.0) (has_any (λ n. is_end_of t n.entry) p x i q)
  new_start other f t x s i q = true≢false (sym s)

  after_add : (e : Entry) → Fact w p e → (t : Txn) (m x : Noted) → Has m (add p e) → Has x (add p e) → starts t m ≡ true → is_end_of t x.entry ≡ true → m.at < x.at
  after_add e f t m x i j s q = elim (has_split p m (next p e) i) [
    | inl a ↦ elim (has_split p x (next p e) j) [ inl c ↦ h.after t m x a c s q | inr c ↦ (let y : x.at ≡ length p + 1 = ap (λ z. z.at) c in let z : m.at < length p + 1 = low m a in omega arith) ]
    | inr a ↦ elim (has_split p x (next p e) j) [
      | inl c ↦ absurd (new_start e f t x (subst (λ z. starts t z ≡ true) a s) c q)
      | inr c ↦ absurd (start_no_end e t t (subst (λ z. starts t z ≡ true) a s) (subst (λ z. is_end_of t z.entry ≡ true) c q))
    ]
  ]

  switch_add : (e : Entry) (c : Kind × ℕ) (t : Txn) (m : Noted) → force.next ≡ Some c → Has m (add p e) → starts t m ≡ true → m.at ≡ c.1 → ⊥
  switch_add e c t m n i s q = elim (has_split p m (next p e) i) [
    | inl a ↦ h.switch c t m n a s q
    | inr a ↦ (let y : m.at ≡ length p + 1 = ap (λ z. z.at) a in let z : c.1 ≤ length p = b.low_too c n in omega arith)
  ]

  ends_add : (e : Entry) (t : Txn) (x : Noted) → has_txn force.view.keep t ≡ true → Has x (add p e) → is_end_of t x.entry ≡ true → force.view.cut < x.at
  ends_add e t x k i q = elim (has_split p x (next p e) i) [
    | inl a ↦ h.ends t x k a q
    | inr a ↦ (let y : x.at ≡ length p + 1 = ap (λ z. z.at) a in let z : force.view.cut ≤ length p = b.low in omega arith)
  ]

  calm : (e : Entry) → Fact w p e → Held force (add p e)
  calm e f = record {
    held = λ t m i s run free. elim (has_split p m (next p e) i) [
      | inl a ↦ h.held t m a s (old_runs e f t m a s run) free
      | inr a ↦ subst (λ z. is_in force.view z ≡ true) (sym a) (is_in_next force.view p e b.low)
    ];
    ends = ends_add e;
    switch = switch_add e;
    after = after_add e f;
  }

  -- while nobody is left to be aborted, whoever runs is held
  free : Quiet w p → (t : Txn) → is_running p t ≡ true → has_txn force.off t ≡ false
  free quiet t run = not_true (has_txn force.off t) (find_none (is_running p) force.off t run quiet)

  held_quiet : Quiet w p → (t : Txn) (m : Noted) → Has m p → starts t m ≡ true → is_running p t ≡ true → is_in force.view m ≡ true
  held_quiet quiet t m i s run = h.held t m i s run (free quiet t run)

  -- a switch's entry starts nothing
  held_on : (e : Entry) → Fact w p e → ((t : Txn) → is_start (is_txn t) e ≡ false) → Quiet w p → (v : View) → ((m : Noted) → is_in force.view m ≡ true → is_in v m ≡ true) →
      (t : Txn) (m : Noted) → Has m (add p e) → starts t m ≡ true → is_running (add p e) t ≡ true → is_in v m ≡ true
  held_on e f none quiet v more t m i s run = elim (has_split p m (next p e) i) [
    | inl a ↦ more m (held_quiet quiet t m a s (old_runs e f t m a s run))
    | inr a ↦ absurd (true≢false (sym s ∙ ap (starts t) a ∙ none t))
  ]

  surviving : (to : Kind) (t : Txn) → is_running p t ≡ true → has_txn (off_list w p Convert to) t ≡ false → has_txn (survivors w p Convert to) t ≡ true
  surviving to t run out = keep_txn (λ u. not (has_txn (off_list w p Convert to) u)) (running w p) t (ap not out) (known_running w p known t ∙ run)

  survived_not : (to : Kind) (t : Txn) → has_txn (survivors w p Convert to) t ≡ true → has_txn (off_list w p Convert to) t ≡ false
  survived_not to t k = not_off (has_txn (off_list w p Convert to) t) (txn_kept (λ u. not (has_txn (off_list w p Convert to) u)) (running w p) t k)

  survived_runs : (to : Kind) (t : Txn) → has_txn (survivors w p Convert to) t ≡ true → is_running p t ≡ true
  survived_runs to t k = sym (known_running w p known t) ∙ txn_among (λ u. not (has_txn (off_list w p Convert to) u)) (running w p) t k

  generic_step : (k : ℕ) (to : Kind) → Fact w p (SwitchOn k to Generic) → Held (turn_on w p force (length p + 1) to Generic) (add p (SwitchOn k to Generic))
  generic_step k to f = record {
    held = λ t m i s run out. held_on (SwitchOn k to Generic) f (λ u. refl) f.0 force.view (λ z q. q) t m i s run;
    ends = ends_add (SwitchOn k to Generic);
    switch = switch_add (SwitchOn k to Generic);
    after = after_add (SwitchOn k to Generic) f;
  }

  convert_step : (k : ℕ) (to : Kind) → Fact w p (SwitchOn k to Convert) → Held (turn_on w p force (length p + 1) to Convert) (add p (SwitchOn k to Convert))
  convert_step k to f = record {
    held = λ t m i s run out. elim (has_split p m (next p (SwitchOn k to Convert)) i) [
      | inl a ↦ is_in_of (record { cut = length p + 1; keep = survivors w p Convert to }) m t s (inr (surviving to t (old_runs (SwitchOn k to Convert) f t m a s run) out))
      | inr a ↦ absurd (true≢false (sym s ∙ ap (starts t) a))
    ];
    ends = λ t x kept i q. elim (has_split p x (next p (SwitchOn k to Convert)) i) [
      | inl a ↦ absurd (not_both p t (survived_runs to t kept) (has_any (λ n. is_end_of t n.entry) p x a q))
      | inr a ↦ absurd (true≢false (sym q ∙ ap (λ n. is_end_of t n.entry) a))
    ];
    switch = switch_add (SwitchOn k to Convert);
    after = after_add (SwitchOn k to Convert) f;
  }

  suffix_step : (k : ℕ) (to : Kind) → Fact w p (SwitchOn k to Suffix) → Held (turn_on w p force (length p + 1) to Suffix) (add p (SwitchOn k to Suffix))
  suffix_step k to f = record {
    held = λ t m i s run out. held_on (SwitchOn k to Suffix) f (λ u. refl) f.0 force.view (λ z q. q) t m i s run;
    ends = ends_add (SwitchOn k to Suffix);
    switch = λ c t m n i s q. elim (has_split p m (next p (SwitchOn k to Suffix)) i) [
      | inl a ↦ (let y : length p + 1 ≡ c.1 = ap (λ d. d.1) (some_is (to, length p + 1) c n) in let z : m.at < length p + 1 = low m a in omega arith)
      | inr a ↦ true≢false (sym s ∙ ap (starts t) a)
    ];
    after = after_add (SwitchOn k to Suffix) f;
  }

  -- when a suffix-sufficient switch ends, whoever runs began after its SwitchOn
  late : (c : Kind × ℕ) (t : Txn) (m : Noted) → force.next ≡ Some c → is_over w p (Some c) ≡ true → Has m p → starts t m ≡ true → is_running p t ≡ true → c.1 < m.at
  late c t m n over i s run =
      let untied : is_tied p c.1 t ≡ false = any_txn (is_tied p c.1) (running w p) t (not_off (list_any (is_tied p c.1) (running w p)) over) (known_running w p known t ∙ run) in
      let stamped : m.stamp ≡ stamp p t = all_has (λ z. is_of t z.entry ≡ true → z.stamp ≡ stamp p t) p m (o.stamped t) i (start_of m.entry t s) in
      let below : m.stamp < m.at + 1 = all_has (λ z. z.stamp < z.at + 1) p m o.later i in
      apart (stamp p t) c.1 m.at (first (nat_lt (stamp p t) c.1) _ untied) (omega arith) (h.switch c t m n i s)
    where
      first : (a rest : Bool) → (a || rest) ≡ false → a ≡ false
      first true rest q = q
      first false rest q = refl

      apart : (a k at : ℕ) → nat_lt a k ≡ false → a < at + 1 → (at ≡ k → ⊥) → k < at
      apart a k at l m differ = elim (cases_true (nat_lt k at)) [
        | inl q ↦ true_lt k at q
        | inr q ↦ absurd (differ (grind (arith, common_steps, l, m, q)))
      ]

  end_step : (k : ℕ) (n : Option (Kind × ℕ)) → force.next ≡ n → is_over w p n ≡ true → Fact w p (SwitchEnd k) → Held (turn_end force n) (add p (SwitchEnd k))
  end_step k None q over f = absurd (true≢false (sym over))
  end_step k (Some c) q over f = record {
    held = λ t m i s run out. elim (has_split p m (next p (SwitchEnd k)) i) [
      | inl a ↦ is_in_past (past c.1) m (late c t m q over a s (old_runs (SwitchEnd k) f t m a s run))
      | inr a ↦ absurd (true≢false (sym s ∙ ap (starts t) a))
    ];
    ends = λ t x kept i r. absurd (true≢false (sym kept));
    switch = λ d t m n i s r. none_is d n;
    after = after_add (SwitchEnd k) f;
  }

  held_step : (e : Entry) → Fact w p e → Held (turn w p force (length p + 1) e) (add p e)
  held_step (SwitchOn k to Generic) f = generic_step k to f
  held_step (SwitchOn k to Convert) f = convert_step k to f
  held_step (SwitchOn k to Suffix) f = suffix_step k to f
  held_step (SwitchEnd k) f = end_step k force.next refl f f
  held_step other f = calm other f

held_none : (f : InForce) → Held f []
held_none f = record { held = λ t m i. absurd i; ends = λ t x k i. absurd i; switch = λ c t m n i. absurd i; after = λ t m x i. absurd i }

pub placed_held : (w : Workload) (h : List Entry) → Placed w h → Held (in_force w (noted h)) (noted h)
placed_held w = by_facts w (λ p. Held (in_force w p) p) (held_none (in_force w [])) more
  where
    more : (h : List Entry) (e : Entry) → Placed w h → Held (in_force w (noted h)) (noted h) → Fact w (noted h) e → Held (in_force w (add (noted h) e)) (add (noted h) e)
    more h e l held f =
        let p : List Noted = noted h in
        subst (λ g. Held g (add p e)) (sym (in_force_push w p e)) (held_step w p (placed_ordered w h l) (placed_known w h l) (placed_bounds w h l) held e f)

-- filters one after the other, and filters by tests that are the same on the list
three : (f g h : Noted → Bool) (xs : List Noted) → filter f (filter g (filter h xs)) ≡ filter (λ x. h x && (g x && f x)) xs
three f g h [] = refl
three f g h (x ∷ xs) = step (h x) (three f g h xs)
  where
    inner : (c : Bool) → filter f (filter g (filter h xs)) ≡ filter (λ x. h x && (g x && f x)) xs → filter f (cond c (x ∷ filter g (filter h xs)) (filter g (filter h xs))) ≡ cond (c && f x) (x ∷ filter (λ x. h x && (g x && f x)) xs) (filter (λ x. h x && (g x && f x)) xs)
    inner true q = ap (λ ys. cond (f x) (x ∷ ys) ys) q
    inner false q = q

    step : (b : Bool) → filter f (filter g (filter h xs)) ≡ filter (λ x. h x && (g x && f x)) xs → filter f (filter g (cond b (x ∷ filter h xs) (filter h xs))) ≡ cond (b && (g x && f x)) (x ∷ filter (λ x. h x && (g x && f x)) xs) (filter (λ x. h x && (g x && f x)) xs)
    step true q = inner (g x) q
    step false q = q

alike_on : (f g : Noted → Bool) (xs : List Noted) → ((m : Noted) → Has m xs → f m ≡ g m) → filter f xs ≡ filter g xs
alike_on f g [] h = refl
alike_on f g (x ∷ xs) h = ap (λ b. cond b (x ∷ filter f xs) (filter f xs)) (h x (inl refl)) ∙ ap (λ ys. cond (g x) (x ∷ ys) ys) (alike_on f g xs (λ m i. h m (inr i)))

-- tests of transactions on Begins and Reads
start_test : (test : Txn → Bool) (e : Entry) (t : Txn) → is_start (is_txn t) e ≡ true → test t ≡ true → is_start test e ≡ true
start_test test (Begin u home) t q k = or_left (test u) false (subst (λ z. test z ≡ true) (sym (same_txn u t (start_of (Begin u home) t q))) k)
start_test test (Read u x site) t q k = subst (λ z. test z ≡ true) (sym (same_txn u t q)) k
start_test test other t q k = absurd (true≢false (sym q))

test_start : (test : Txn → Bool) (e : Entry) → is_start test e ≡ true → (t : Txn) × (is_start (is_txn t) e ≡ true) × (test t ≡ true)
test_start test (Begin u home) k = (u, or_left (is_txn u u) false (eq_self u.0 u.0 refl), only (test u) k)
  where
    only : (b : Bool) → (b || false) ≡ true → b ≡ true
    only true q = refl
    only false q = q
test_start test (Read u x site) k = (u, eq_self u.0 u.0 refl, k)
test_start test other k = absurd (true≢false (sym k))

-- whose a Begin or a Read is
is_of_start : (e : Entry) (t u : Txn) → is_start (is_txn t) e ≡ true → is_of u e ≡ is_txn t u
is_of_start (Begin v home) t u q = ap (is_txn u) (same_txn v t (start_of (Begin v home) t q)) ∙ turned_round t.0 u.0
  where
    turned_round : (a b : ℕ) → (a == b) ≡ (b == a)
    turned_round a b = same_tests (a == b) (b == a) (λ r. eq_self b a (sym (eqb-true a b r))) (λ r. eq_self a b (sym (eqb-true b a r)))
is_of_start (Read v x site) t u q = ap (is_txn u) (same_txn v t q) ∙ turned_round t.0 u.0
  where
    turned_round : (a b : ℕ) → (a == b) ≡ (b == a)
    turned_round a b = same_tests (a == b) (b == a) (λ r. eq_self b a (sym (eqb-true a b r))) (λ r. eq_self a b (sym (eqb-true b a r)))
is_of_start other t u q = absurd (true≢false (sym q))

any_of_start : (e : Entry) (t : Txn) (off : List Txn) → is_start (is_txn t) e ≡ true → list_any (λ u. is_of u e) off ≡ has_txn off t
any_of_start e t [] q = refl
any_of_start e t (u ∷ us) q = ap (λ b. b || list_any (λ u. is_of u e) us) (is_of_start e t u q) ∙ ap (λ b. is_txn t u || b) (any_of_start e t us q)

and_three : (a b c : Bool) → a ≡ true → b ≡ true → c ≡ true → (a && (b && c)) ≡ true
and_three a b c p q r = and_from a (b && c) p (and_from b c q r)

three_and : (a b c : Bool) → (a && (b && c)) ≡ true → (a ≡ true) × (b ≡ true) × (c ≡ true)
three_and a b c q = let x = and_parts a (b && c) q in let y = and_parts b c x.1 in (x.0, y.0, y.1)

-- what is carried from the old view is the new one's view
module _ (w : Workload) (p : List Noted) (o : Ordered p) (known : AreKnown w p) (h : Held (in_force w p) p) (quiet : Quiet w p) (b : Bounds (in_force w p) (length p)) (k : ℕ) (to : Kind) where
  abbrev entry : Entry
  entry = SwitchOn k to Convert

  abbrev n : Noted
  n = next p entry

  abbrev old : View
  old = (in_force w p).view

  abbrev fresh : View
  fresh = record { cut = length p + 1; keep = survivors w p Convert to }

  abbrev off : List Txn
  off = off_list w p Convert to

  abbrev view : List Noted
  view = view_of old p ++ n ∷ []

  -- an end in the old view is one in the history
  ended_in : (t : Txn) → has_ended view t ≡ true → has_ended p t ≡ true
  ended_in t q =
      let x = any_has (λ m. is_end_of t m.entry) view q in
      elim (has_split (view_of old p) x.0 n x.1) [
        | inl i ↦ has_any (λ m. is_end_of t m.entry) p x.0 (filter_has (is_in old) p x.0 i).0 x.2
        | inr i ↦ absurd (true≢false (sym x.2 ∙ ap (λ m. is_end_of t m.entry) i))
      ]

  -- and where a transaction starts in the old view, its end in the history is in the view
  in_ended : (t : Txn) (m : Noted) → Has m p → starts t m ≡ true → is_in old m ≡ true → has_ended p t ≡ true → has_ended view t ≡ true
  in_ended t m i s inside q =
      let x = any_has (λ m. is_end_of t m.entry) p q in
      let past_cut : old.cut < (x.0).at = elim (of_is_in old m t s inside) [
        | inl l ↦ (let z : m.at < (x.0).at = h.after t m x.0 i x.1 s x.2 in omega arith)
        | inr kept ↦ h.ends t x.0 kept x.1 x.2
      ] in
      more (view_of old p) (has_any (λ m. is_end_of t m.entry) (view_of old p) x.0 (has_filter (is_in old) p x.0 x.1 (is_in_past old x.0 past_cut)) x.2)
    where
      more : (v : List Noted) → has_ended v t ≡ true → has_ended (v ++ n ∷ []) t ≡ true
      more v q = grind (arith, common_steps, q)

  abbrev carries : Noted → Bool
  carries m = is_start (λ t. not (has_ended view t)) m.entry

  abbrev spares : Noted → Bool
  spares m = not (list_any (λ t. is_of t m.entry) off)

  kept_of : (m : Noted) → Has m p → is_in fresh m ≡ true → (t : Txn) × (starts t m ≡ true) × (has_txn (survivors w p Convert to) t ≡ true)
  kept_of m i q = elim (or_parts (nat_lt (length p + 1) m.at) (is_begin (has_txn fresh.keep) m.entry) (is_read (λ u x s. has_txn fresh.keep u) m.entry) q) [
    | inl l ↦ absurd (let y : length p + 1 < m.at = true_lt (length p + 1) m.at l in let z : m.at < length p + 1 = all_has (λ m. m.at < length p + 1) p m o.bounded i in omega arith)
    | inr r ↦ test_start (has_txn (survivors w p Convert to)) m.entry r
  ]

  fresh_carried : (m : Noted) → Has m p → is_in fresh m ≡ true → (is_in old m && (carries m && spares m)) ≡ true
  fresh_carried m i q =
      let r = kept_of m i q in
      let run : is_running p r.0 ≡ true = survived_runs w p o known b h to r.0 r.2 in
      and_three (is_in old m) (carries m) (spares m)
      (held_quiet w p o known b h quiet r.0 m i r.1 run)
      (start_test (λ t. not (has_ended view t)) m.entry r.0 r.1 (ap not (not_true (has_ended view r.0) (λ e. not_both p r.0 run (ended_in r.0 e)))))
      (ap not (any_of_start m.entry r.0 off r.1 ∙ survived_not w p o known b h to r.0 r.2))

  carried_fresh : (m : Noted) → Has m p → (is_in old m && (carries m && spares m)) ≡ true → is_in fresh m ≡ true
  carried_fresh m i q =
      let a = three_and (is_in old m) (carries m) (spares m) q in
      let r = test_start (λ t. not (has_ended view t)) m.entry a.1 in
      let goes : has_ended p r.0 ≡ false = not_true (has_ended p r.0) (λ e. true≢false (sym r.2 ∙ ap not (in_ended r.0 m i r.1 a.0 e))) in
      let run : is_running p r.0 ≡ true = and_from (has_begun p r.0) (not (has_ended p r.0)) (o.whole r.0 (has_any (λ z. is_of r.0 z.entry) p m i (start_of m.entry r.0 r.1))) (ap not goes) in
      let out : has_txn off r.0 ≡ false = sym (any_of_start m.entry r.0 off r.1) ∙ not_off (list_any (λ t. is_of t m.entry) off) a.2 in
      is_in_of fresh m r.0 r.1 (inr (surviving w p o known b h to r.0 run out))

  pub converted : view_of fresh (add p entry) ≡ without off (carried (view_of old p ++ next p entry ∷ []))
  converted =
      view_push fresh p n
      ∙ ap (λ c. view_of fresh p ++ (if c then n ∷ [] else [])) (itself (length p + 1))
      ∙ append-nil (view_of fresh p)
      ∙ alike_on (is_in fresh) (λ m. is_in old m && (carries m && spares m)) p (λ m i. same_tests (is_in fresh m) (is_in old m && (carries m && spares m)) (fresh_carried m i) (carried_fresh m i))
      ∙ sym (three spares carries (is_in old) p)
      ∙ ap (without off) (sym (filter-append carries (view_of old p) (n ∷ []) ∙ append-nil (filter carries (view_of old p))))
    where
      itself : (a : ℕ) → (nat_lt a a || false || false) ≡ false
      itself a = grind (arith, common_steps)

-- no entry of a history stands past its length
none_past : (k : ℕ) (p : List Noted) → ((m : Noted) → Has m p → m.at ≤ k) → view_of (past k) p ≡ []
none_past k [] h = refl
none_past k (m ∷ ms) h = ap (λ b. cond b (m ∷ view_of (past k) ms) (view_of (past k) ms)) (outside m.entry (below m.at k (h m (inl refl)))) ∙ none_past k ms (λ n i. h n (inr i))
  where
    below : (a k : ℕ) → a ≤ k → nat_lt k a ≡ false
    below a k l = grind (arith, common_steps, l)

    outside : (e : Entry) → nat_lt k m.at ≡ false → (nat_lt k m.at || is_begin (has_txn []) e || is_read (λ t x s. has_txn [] t) e) ≡ false
    outside (Begin t home) q = grind (arith, common_steps, q)
    outside (Read t x site) q = grind (arith, common_steps, q)
    outside other q = grind (arith, common_steps, q)

module _ (w : Workload) (p : List Noted) (o : Ordered p) (known : AreKnown w p) (h : Held (in_force w p) p) (b : Bounds (in_force w p) (length p)) (k : ℕ) (to : Kind) where
  on_generic : Fact w p (SwitchOn k to Generic) → controllers (turn_on w p (in_force w p) (length p + 1) to Generic) (add p (SwitchOn k to Generic)) ≡ turned Generic to (off_list w p Generic to) (next p (SwitchOn k to Generic)) (older (in_force w p) p)
  on_generic f =
      ap (λ v. (to, v) ∷ newer (add p (SwitchOn k to Generic)) (in_force w p).next) (grow_view (in_force w p).view p (SwitchOn k to Generic) b.low)
      ∙ ap (λ c. (to, view_of (in_force w p).view p ++ next p (SwitchOn k to Generic) ∷ []) ∷ newer (add p (SwitchOn k to Generic)) c) (alone_next (in_force w p).next f.1)

  on_convert : Fact w p (SwitchOn k to Convert) → controllers (turn_on w p (in_force w p) (length p + 1) to Convert) (add p (SwitchOn k to Convert)) ≡ turned Convert to (off_list w p Convert to) (next p (SwitchOn k to Convert)) (older (in_force w p) p)
  on_convert f =
      ap (λ v. (to, v) ∷ newer (add p (SwitchOn k to Convert)) (in_force w p).next) (converted w p o known h f.0 b k to)
      ∙ ap (λ c. (to, without (off_list w p Convert to) (carried (view_of (in_force w p).view p ++ next p (SwitchOn k to Convert) ∷ []))) ∷ newer (add p (SwitchOn k to Convert)) c) (alone_next (in_force w p).next f.1)

  on_suffix : controllers (turn_on w p (in_force w p) (length p + 1) to Suffix) (add p (SwitchOn k to Suffix)) ≡ turned Suffix to (off_list w p Suffix to) (next p (SwitchOn k to Suffix)) (older (in_force w p) p)
  on_suffix =
      ap (λ v. ((in_force w p).kind, v) ∷ (to, view_of (past (length p + 1)) (add p (SwitchOn k to Suffix))) ∷ []) (grow_view (in_force w p).view p (SwitchOn k to Suffix) b.low)
      ∙ ap (λ v. ((in_force w p).kind, view_of (in_force w p).view p ++ next p (SwitchOn k to Suffix) ∷ []) ∷ (to, v) ∷ []) (none_past (length p + 1) (add p (SwitchOn k to Suffix)) within)
    where
      within : (m : Noted) → Has m (add p (SwitchOn k to Suffix)) → m.at ≤ length p + 1
      within m i = elim (has_split p m (next p (SwitchOn k to Suffix)) i) [
        | inl a ↦ (let z : m.at < length p + 1 = all_has (λ m. m.at < length p + 1) p m o.bounded a in omega arith)
        | inr a ↦ (let z : m.at ≡ length p + 1 = ap (λ n. n.at) a in omega arith)
      ]

  on_each : (method : Method) → Fact w p (SwitchOn k to method) → controllers (turn_on w p (in_force w p) (length p + 1) to method) (add p (SwitchOn k to method)) ≡ turned method to (off_list w p method to) (next p (SwitchOn k to method)) (older (in_force w p) p)
  on_each Generic f = on_generic f
  on_each Convert f = on_convert f
  on_each Suffix f = on_suffix

forced_fact : (w : Workload) (p : List Noted) (e : Entry) → forced w p ≡ Some e → Fact w p e
forced_fact w p e q = placed_fact w p e (forced_placeable w p e q)

pub forced_alone : (w : Workload) (h : List Entry) (k : ℕ) (to : Kind) (method : Method) → Placed w h → forced w (noted h) ≡ Some (SwitchOn k to method) →
    controllers (in_force w (noted h)) (noted h) ≡ older (in_force w (noted h)) (noted h) ∷ []
forced_alone w h k to method l q = alone_controllers (in_force w (noted h)) (noted h) (forced_fact w (noted h) (SwitchOn k to method) q).1

pub forced_turned : (w : Workload) (h : List Entry) (k : ℕ) (to : Kind) (method : Method) → Placed w h → forced w (noted h) ≡ Some (SwitchOn k to method) →
    controllers (in_force w (add (noted h) (SwitchOn k to method))) (add (noted h) (SwitchOn k to method)) ≡ turned method to (off_list w (noted h) method to) (next (noted h) (SwitchOn k to method)) (older (in_force w (noted h)) (noted h))
forced_turned w h k to method l q =
    let p : List Noted = noted h in
    ap (λ f. controllers f (add p (SwitchOn k to method))) (in_force_push w p (SwitchOn k to method))
    ∙ on_each w p (placed_ordered w h l) (placed_known w h l) (placed_held w h l) (placed_bounds w h l) k to method (forced_fact w p (SwitchOn k to method) q)

pub forced_in_order : (w : Workload) (h : List Entry) (k : ℕ) (to : Kind) (method : Method) → Placed w h → forced w (noted h) ≡ Some (SwitchOn k to method) →
    IsInOrder ((older (in_force w (noted h)) (noted h)).1 ++ next (noted h) (SwitchOn k to method) ∷ [])
forced_in_order w h k to method l q =
    (All-head (λ c. MayNote c.0 c.1 (next (noted h) (SwitchOn k to method))) (older (in_force w (noted h)) (noted h)) (newer (noted h) (in_force w (noted h)).next)
    (placed_may_note w h (SwitchOn k to method) l (forced_placeable w (noted h) (SwitchOn k to method) q))).in_order
