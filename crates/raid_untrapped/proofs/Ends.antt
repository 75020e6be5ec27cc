-- Ends come after Reads, and the view of the old controller has the ends of those whose Reads it keeps.
use Rattle.std.proofs.Common.{◌≡◌, ℕ, ◌+◌, ◌<◌, ◌≤◌, inl, inr, Bool, true, not, List, length, Option, Some, None, arith, sym, ◌∙◌, ap, subst}
use Rattle.std.proofs.lemmas.Bool.{true≢false, and_parts}
use Rattle.raid_base.specs.declared.names.Txn.{Txn}
use Rattle.raid_base.specs.declared.entry.Entry.{Entry}
use Rattle.raid_base.specs.declared.entry.Entry.TheVariants.{Read, SwitchOn, SwitchEnd}
use Rattle.raid_base.specs.declared.entry.Noted.{Noted}
use Rattle.raid_base.specs.declared.verdict.Kind.{Kind}
use Rattle.raid_base.specs.declared.verdict.Method.TheVariants.{Generic, Convert, Suffix}
use Rattle.raid_base.specs.Names.{is_txn, has_txn}
use Rattle.raid_workload.specs.declared.workload.Workload.{Workload}
use Rattle.raid_workload.specs.Parts.{txns}
use Rattle.raid_rules.specs.Entries.{is_read, is_end_of}
use Rattle.raid_rules.specs.History.{noted, add, next, has_begun, has_ended, is_running}
use Rattle.raid_rules.proofs.Push.{same_txn}
use Rattle.raid_legal.specs.Seen.{running}
use Rattle.raid_legal.specs.InForce.{InForce, in_force, turn, turn_end, off_list}
use Rattle.raid_serial.proofs.Facts.{Fact}
use Rattle.raid_serial.proofs.Force.{in_force_push}
use Rattle.raid_serial.proofs.Ordered.{Ordered, all_has}
use Rattle.raid_serial.proofs.Grants.{has_split}
use Rattle.raid_serial.proofs.Translate.{Has, has_any}
use Rattle.raid_serial.proofs.Theorem.{inv}
use Rattle.raid_placed.specs.Placed.{Placed}
use Rattle.raid_placed.proofs.Sent.{by_facts}
use Rattle.raid_placed.proofs.Orderly.{placed_ordered, txn_kept, txn_among}
use Rattle.raid_placed.proofs.Backward.{placed_stands}

-- a Read of the transaction
abbrev pub reads : Txn → Entry → Bool
reads u = is_read (λ v x s. is_txn u v)

-- the view of the old controller has the ends of those whose Reads it keeps
abbrev pub KeptEnds : InForce → List Noted → Type 0
KeptEnds f p = (m : Noted) (u : Txn) → Has m p → is_end_of u m.entry ≡ true → has_txn f.view.keep u ≡ true → f.view.cut < m.at

pub record Ends (w : Workload) (p : List Noted) : Type 0 where
  pub after : (n m : Noted) (u : Txn) → Has n p → Has m p → reads u n.entry ≡ true → is_end_of u m.entry ≡ true → n.at < m.at
  pub kept : KeptEnds (in_force w p) p

not_ended : (p : List Noted) (m : Noted) (u : Txn) → is_running p u ≡ true → Has m p → is_end_of u m.entry ≡ true → ⊥
not_ended p m u run i e = true≢false (sym (and_parts (has_begun p u) (not (has_ended p u)) run).1 ∙ ap not (has_any (λ m. is_end_of u m.entry) p m i e))

-- who reads runs
reader_runs : (w : Workload) (p : List Noted) (e : Entry) (u : Txn) → Fact w p e → reads u e ≡ true → is_running p u ≡ true
reader_runs w p (Read t x s) u f r = subst (λ z. is_running p z ≡ true) (same_txn t u r) f.0
reader_runs w p other u f r = absurd (true≢false (sym r))

read_no_end : (e : Entry) (u : Txn) → reads u e ≡ true → is_end_of u e ≡ true → ⊥
read_no_end (Read t x s) u r e = true≢false (sym e)
read_no_end other u r e = true≢false (sym r)

module _ (w : Workload) (p : List Noted) (o : Ordered p) (s : Ends w p) (low : (in_force w p).view.cut ≤ length p) where
  after_next : (e : Entry) → Fact w p e → (n m : Noted) (u : Txn) → Has n (add p e) → Has m (add p e) → reads u n.entry ≡ true → is_end_of u m.entry ≡ true → n.at < m.at
  after_next e f n m u i j r q = elim (has_split p n (next p e) i) [
    | inl a ↦ elim (has_split p m (next p e) j) [
      | inl b ↦ s.after n m u a b r q
      | inr b ↦ (let z : n.at < length p + 1 = all_has (λ m. m.at < length p + 1) p n o.bounded a in subst (λ k. n.at < k.at) (sym b) z)
    ]
    | inr a ↦ (let r' : reads u e ≡ true = subst (λ k. reads u k.entry ≡ true) a r in elim (has_split p m (next p e) j) [
      | inl b ↦ absurd (not_ended p m u (reader_runs w p e u f r') b q)
      | inr b ↦ absurd (read_no_end e u r' (subst (λ k. is_end_of u k.entry ≡ true) b q))
    ])
  ]

  -- the same controllers, and any entry
  same_kept : (e : Entry) → KeptEnds (in_force w p) (add p e)
  same_kept e m u i q k = elim (has_split p m (next p e) i) [
    | inl a ↦ s.kept m u a q k
    | inr a ↦ subst (λ z. (in_force w p).view.cut < z.at) (sym a) (omega (arith, low))
  ]

  end_kept : (e : Entry) (c : Option (Kind × ℕ)) → KeptEnds (turn_end (in_force w p) c) (add p e)
  end_kept e None = same_kept e
  end_kept e (Some c) = λ m u i q k. absurd (true≢false (sym k))

  turn_kept : (e : Entry) → KeptEnds (turn w p (in_force w p) (length p + 1) e) (add p e)
  turn_kept (SwitchOn j to Generic) = same_kept (SwitchOn j to Generic)
  turn_kept (SwitchOn j to Convert) = λ m u i q k. elim (has_split p m (next p (SwitchOn j to Convert)) i) [
    | inl a ↦ absurd (not_ended p m u (txn_kept (is_running p) (txns w) u (txn_among (λ t. not (has_txn (off_list w p Convert to) t)) (running w p) u k)) a q)
    | inr a ↦ absurd (true≢false (sym (subst (λ z. is_end_of u z.entry ≡ true) a q)))
  ]
  turn_kept (SwitchOn j to Suffix) = same_kept (SwitchOn j to Suffix)
  turn_kept (SwitchEnd j) = end_kept (SwitchEnd j) (in_force w p).next
  turn_kept other = same_kept other

  more : (e : Entry) → Fact w p e → Ends w (add p e)
  more e f = record { after = after_next e f; kept = subst (λ z. KeptEnds z (add p e)) (sym (in_force_push w p e)) (turn_kept e) }

pub placed_ends : (w : Workload) (h : List Entry) → Placed w h → Ends w (noted h)
placed_ends w = by_facts w (Ends w) (record { after = λ n m u i. absurd i; kept = λ m u i. absurd i }) (λ h e l s f. more w (noted h) (placed_ordered w h l) s (inv _ (placed_stands w h l).tame).low e f)
