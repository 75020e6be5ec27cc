-- Whom the entries of a placed history name, who commits, and that committed transactions have no cycle.
use Rattle.std.proofs.Common.{◌≡◌, ◌+◌, true, List, [], ◌∷◌, ◌++◌, map, length, sym, ◌∙◌, ap, subst, refl, append-nil, Option, Some, None}
use Rattle.std.specs.Prelude.{option_to_list}
use Rattle.std.specs.List.{cons_option}
use Rattle.raid_base.specs.declared.names.Txn.{Txn}
use Rattle.raid_base.specs.declared.request.Request.{Request}
use Rattle.raid_base.specs.declared.entry.Entry.{Entry}
use Rattle.raid_base.specs.declared.entry.Entry.TheVariants.{Begin, Read, Wait, Commit, Abort, Ack}
use Rattle.raid_base.specs.declared.entry.Noted.{Noted}
use Rattle.raid_base.specs.Names.{has_txn}
use Rattle.raid_workload.specs.declared.workload.Workload.{Workload}
use Rattle.raid_workload.specs.Parts.{txns}
use Rattle.raid_rules.specs.Entries.{named}
use Rattle.raid_rules.specs.History.{noted, add, next, stamp}
use Rattle.raid_rules.specs.Conflict.{Path, commits, committed, commit_of}
use Rattle.raid_rules.specs.Committed.{AllOnce, CommittedEdge}
use Rattle.raid_rules.proofs.Txns.{not_true, once_push}
use Rattle.raid_rules.proofs.Listing.{committed_has}
use Rattle.raid_legal.specs.InForce.{in_force, turn}
use Rattle.raid_serial.proofs.System.{Hist}
use Rattle.raid_serial.proofs.Theorem.{serializable}
use Rattle.raid_serial.proofs.Translate.{txn, hist_of, rep_hist}
use Rattle.raid_serial.proofs.Real.{run_model, com_model}
use Rattle.raid_serial.proofs.Facts.{Fact, some_is, none_is}
use Rattle.raid_serial.proofs.Force.{in_force_push}
use Rattle.raid_serial.proofs.Ordered.{Ordered, run_begun}
use Rattle.raid_serial.proofs.Committed.{committed_path}
use Rattle.raid_placed.specs.Placed.{Placeable, Placed, AreKnown}
use Rattle.raid_placed.proofs.Sent.{placed_fact, by_facts}
use Rattle.raid_placed.proofs.Orderly.{placed_ordered, placed_known}
use Rattle.raid_placed.proofs.Backward.{placed_stands}

-- whom an entry names is of the workload
name_known : (w : Workload) (p : List Noted) (o : Ordered p) (known : AreKnown w p) (e : Entry) (t : Txn) → Fact w p e → named e ≡ Some t → has_txn (txns w) t ≡ true
name_known w p o known (Begin u home) t f q = subst (λ z. has_txn (txns w) z ≡ true) (some_is u t q) f.0
name_known w p o known (Read u x site) t f q = subst (λ z. has_txn (txns w) z ≡ true) (some_is u t q) (known u (run_begun p u f.0))
name_known w p o known (Wait u request) t f q = subst (λ z. has_txn (txns w) z ≡ true) (some_is u t q) (known u (run_begun p u f))
name_known w p o known (Commit u request applied) t f q = subst (λ z. has_txn (txns w) z ≡ true) (some_is u t q) (known u (run_begun p u f.0))
name_known w p o known (Abort u cause act) t f q = subst (λ z. has_txn (txns w) z ≡ true) (some_is u t q) (known u (run_begun p u f))
name_known w p o known (Ack u site) t f q = subst (λ z. has_txn (txns w) z ≡ true) (some_is u t q) (known u (o.acked site u f))
name_known w p o known other t f q = absurd (none_is t q)

pub placed_names : (w : Workload) (h : List Entry) (e : Entry) (t : Txn) → Placed w h → Placeable w (noted h) e → named e ≡ Some t → has_txn (txns w) t ≡ true
placed_names w h e t l g q = name_known w (noted h) (placed_ordered w h l) (placed_known w h l) e t (placed_fact w (noted h) e g) q

-- what is in force
pub turns_force : (w : Workload) (p : List Noted) (e : Entry) → in_force w (add p e) ≡ turn w p (in_force w p) (length p + 1) e
turns_force = in_force_push

-- one more entry, and who is committed
commits_push : (p : List Noted) (n : Noted) → committed (p ++ n ∷ []) ≡ committed p ++ map (λ c. c.0) (option_to_list (commit_of n.entry))
commits_push [] n = go (commit_of n.entry)
  where
    go : (o : Option (Txn × Request)) → map (λ c. c.0) (cons_option o []) ≡ map (λ c. c.0) (option_to_list o)
    go None = refl
    go (Some c) = refl
commits_push (m ∷ ms) n = go (commit_of m.entry) (commits_push ms n)
  where
    go : (o : Option (Txn × Request)) → committed (ms ++ n ∷ []) ≡ committed ms ++ map (λ c. c.0) (option_to_list (commit_of n.entry)) →
        map (λ c. c.0) (cons_option o (commits (ms ++ n ∷ []))) ≡ map (λ c. c.0) (cons_option o (commits ms)) ++ map (λ c. c.0) (option_to_list (commit_of n.entry))
    go None h = h
    go (Some c) h = ap (λ xs. c.0 ∷ xs) h

once_add : (w : Workload) (p : List Noted) (e : Entry) → Fact w p e → AllOnce (committed p) → AllOnce (committed p ++ map (λ c. c.0) (option_to_list (commit_of e)))
once_add w p (Commit t request applied) f d = once_push (committed p) t d (committed_has p t ∙ not_true _ (λ h. (run_model (Hist (hist_of p)) p (rep_hist p) t.0 f.0).1 (com_model (Hist (hist_of p)) p (rep_hist p) t.0 h)))
once_add w p other f d = subst AllOnce (sym (append-nil (committed p))) d

pub placed_once : (w : Workload) (h : List Entry) → Placed w h → AllOnce (committed (noted h))
placed_once w = by_facts w (λ p. AllOnce (committed p)) tt (λ h e l d f. subst AllOnce (sym (commits_push (noted h) (next (noted h) e))) (once_add w (noted h) e f d))

pub placed_never_cycles : (w : Workload) (h : List Entry) → Placed w h → (t : Txn) → Path (CommittedEdge (noted h)) t t → ⊥
placed_never_cycles w h l t c = serializable (λ k. stamp (noted h) (txn k)) (placed_stands w h l).tame t.0 (committed_path (noted h) c)
