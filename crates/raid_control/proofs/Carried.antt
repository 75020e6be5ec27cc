-- What is left of a view in order, where only Begins and Reads are left, may be carried.
use Rattle.std.proofs.Common.{Bool, ◌≡◌, ◌<◌, true, not, List, refl, sym, get_or, filter}
use Rattle.std.specs.List.{All}
use Rattle.std.proofs.lemmas.List.Elements.{All-filter, filter_passes}
use Rattle.std.proofs.lemmas.List.Kept.{AllPairs-filter}
use Rattle.std.proofs.lemmas.Bool.{true≢false}
use Rattle.raid_base.specs.declared.names.Txn.{Txn}
use Rattle.raid_base.specs.declared.entry.Entry.{Entry}
use Rattle.raid_base.specs.declared.entry.Entry.TheVariants.{Begin, Read, Wait, Commit, Abort, Ack, SwitchOn, SwitchEnd, Down, Up, Clear}
use Rattle.raid_base.specs.declared.entry.Noted.{Noted}
use Rattle.raid_rules.specs.Entries.{is_commit}
use Rattle.raid_rules.specs.History.{has_ended}
use Rattle.raid_rules.specs.Order.{IsInOrder, AgreesOn, BeginsAtStamp, is_of}
use Rattle.raid_control.specs.Carried.{is_start, carried, IsCarry}

-- a Begin or Read is no Commit
start_commits_not : (e : Entry) → is_start (λ t. true) e ≡ true → is_commit (λ u request. true) e ≡ true → {X : Type 0} → X
start_commits_not (Begin t home) s c = absurd (true≢false (sym c))
start_commits_not (Read t x site) s c = absurd (true≢false (sym c))
start_commits_not (Wait t request) s c = absurd (true≢false (sym c))
start_commits_not (Commit t request applied) s c = absurd (true≢false (sym s))
start_commits_not (Abort t cause act) s c = absurd (true≢false (sym c))
start_commits_not (Ack t site) s c = absurd (true≢false (sym c))
start_commits_not (SwitchOn k kind method) s c = absurd (true≢false (sym c))
start_commits_not (SwitchEnd k) s c = absurd (true≢false (sym c))
start_commits_not (Down site) s c = absurd (true≢false (sym c))
start_commits_not (Up site session) s c = absurd (true≢false (sym c))
start_commits_not (Clear site x version) s c = absurd (true≢false (sym c))

-- a Begin or Read that passes a test is one
any_start : (test : Txn → Bool) (e : Entry) → is_start test e ≡ true → is_start (λ t. true) e ≡ true
any_start test (Begin t home) s = refl
any_start test (Read t x site) s = refl
any_start test (Wait t request) s = s
any_start test (Commit t request applied) s = s
any_start test (Abort t cause act) s = s
any_start test (Ack t site) s = s
any_start test (SwitchOn k kind method) s = s
any_start test (SwitchEnd k) s = s
any_start test (Down site) s = s
any_start test (Up site session) s = s
any_start test (Clear site x version) s = s

pub left_is_a_carry : (keep : Noted → Bool) (view : List Noted) → IsInOrder view → All (λ n. is_start (λ t. true) n.entry ≡ true) (filter keep view) →
    IsCarry (filter keep view)
left_is_a_carry keep view o starts = record {
  in_order = record {
    counted = All-filter keep (λ n. 0 < n.at) view o.counted;
    ascends = AllPairs-filter (λ a b. a.at < b.at) keep view o.ascends;
    agrees = λ t. AllPairs-filter (AgreesOn t) keep view (o.agrees t);
    begins = λ t. All-filter keep (BeginsAtStamp t) view (o.begins t);
    older = λ t none k d l here j f m commits. start_commits_not (get_or (filter keep view) j f).entry (starts j f m) commits;
  };
  starts = starts;
}

pub carried_is_a_carry : (view : List Noted) → IsInOrder view → IsCarry (carried view)
carried_is_a_carry view o =
    left_is_a_carry (λ n. is_start (λ t. not (has_ended view t)) n.entry) view o
    (λ k d l. any_start (λ t. not (has_ended view t)) (get_or (carried view) k d).entry (filter_passes (λ n. is_start (λ t. not (has_ended view t)) n.entry) view k d l))

pub without_is_a_carry : (c : List Noted) (t : Txn) → IsCarry c → IsCarry (filter (λ n. not (is_of t n.entry)) c)
without_is_a_carry c t i = left_is_a_carry (λ n. not (is_of t n.entry)) c i.in_order (All-filter (λ n. not (is_of t n.entry)) (λ n. is_start (λ u. true) n.entry ≡ true) c i.starts)
