-- How the sequencer answers what a transaction asks, from the prefix alone.
use Rattle.std.specs.Prelude.{ℤ, ◌==◌, Bool, true, false, not, ◌&&◌, List, [], ◌∷◌, ◌++◌, filter, map, flat_map, Option, Some, None, if◌then◌else◌}
use Rattle.std.specs.List.{list_any}
use Rattle.raid_base.specs.declared.names.Txn.{Txn}
use Rattle.raid_base.specs.declared.names.Item.{Item}
use Rattle.raid_base.specs.declared.names.Site.{Site}
use Rattle.raid_base.specs.declared.request.Request.{Request}
use Rattle.raid_base.specs.declared.entry.Entry.{Entry}
use Rattle.raid_base.specs.declared.entry.Entry.TheVariants.{Read, Wait, Commit, Abort}
use Rattle.raid_base.specs.declared.entry.Act.TheVariants as acts
use Rattle.raid_base.specs.declared.entry.Cause.{Cause}
use Rattle.raid_base.specs.declared.entry.Cause.TheVariants as causes
use Rattle.raid_base.specs.declared.entry.Noted.{Noted}
use Rattle.raid_base.specs.declared.verdict.Kind.{Kind}
use Rattle.raid_base.specs.declared.verdict.Kind.TheVariants.{Lock}
use Rattle.raid_base.specs.declared.verdict.Refusal.{Refusal}
use Rattle.raid_base.specs.declared.verdict.Refusal.TheVariants.{Late, Invalid, Cycle}
use Rattle.raid_base.specs.declared.verdict.Verdict.{Verdict}
use Rattle.raid_base.specs.declared.verdict.Verdict.TheVariants as verdicts
use Rattle.raid_workload.specs.declared.workload.Workload.{Workload}
use Rattle.raid_workload.specs.Parts.{home, placement}
use Rattle.raid_rules.specs.History.{stamp, waiting, is_waiting}
use Rattle.raid_rules.specs.Conflict.{leads}
use Rattle.raid_rules.specs.Verdicts.{reading, writing, is_blocked_by}
use Rattle.raid_base.specs.Sites.{session}
use Rattle.raid_rules.specs.Sessions.{holders, source_for}
use Rattle.raid_legal.specs.Seen.{vector, is_up, sources, up_holders}
use Rattle.raid_legal.specs.InForce.{in_force, controllers, verdict}

-- the cause that a controller's refusal gives to the abort
abbrev pub cause_of : Refusal → Cause
cause_of Late = causes.Late
cause_of Invalid = causes.Invalid
cause_of Cycle = causes.Cycle

-- the entry that answers a read, given the site to serve it, if there is one, and the verdict; no kind makes a read wait
abbrev pub served : Txn → Item → Option Site → Verdict → Entry
served t x None v = Abort t causes.NoCopy (acts.Read x)
served t x (Some s) (verdicts.Reject why) = Abort t (cause_of why) (acts.Read x)
served t x (Some s) verdicts.Wait = Read t x s
served t x (Some s) verdicts.Grant = Read t x s

-- the answer to a read: from the home where it is a source, else from the least source
abbrev pub answer_read : Workload → List Noted → Txn → Item → Entry
answer_read w p t x = served t x (source_for (sources w p x) (home w t)) (verdict w p (reading t (stamp p t) x))

-- a written item has no holder that is up, so nobody could take the write
abbrev pub has_no_holder : Workload → List Noted → Request → Bool
has_no_holder w p request = list_any (λ pair. not (list_any (is_up w p) (holders (placement w) pair.0))) request.writes

-- a site that would take a write is in another session than the home knew, so what was prepared there may be lost
abbrev pub is_stale : Workload → List Noted → Request → Bool
is_stale w p request = list_any (λ s. not (session (vector w p) s == session request.under s)) (up_holders w p request.writes)

-- why the sites keep a commit from being decided at all, if they do; this comes before any verdict
abbrev pub site_refusal : Workload → List Noted → Request → Option Cause
site_refusal w p request = if has_no_holder w p request then Some causes.NoCopy else if is_stale w p request then Some (causes.Stale (vector w p)) else None

-- the kind is locking, the only one that makes a commit wait
abbrev pub is_lock : Kind → Bool
is_lock Lock = true
is_lock other = false

-- under a lock controller in force, a read of u keeps t from making these writes: t waits for u
abbrev pub blocks : Workload → List Noted → Txn → Txn → List (Item × ℤ) → Bool
blocks w p u t writes = list_any (λ c. is_lock c.0 && is_blocked_by u c.1 t writes) (controllers (in_force w p) p)

-- which of these transactions wait for which of them, each with its request
abbrev pub wait_edges : Workload → List Noted → List (Txn × Request) → List (Txn × Txn)
wait_edges w p rs = flat_map (λ r. map (λ q. (r.0, q.0)) (filter (λ q. blocks w p q.0 r.0 r.1.writes) rs)) rs

-- a new request, were it to wait, would wait for itself through the others
abbrev pub closes_waits : Workload → List Noted → Txn → Request → Bool
closes_waits w p t request = leads (wait_edges w p (waiting p ++ (t, request) ∷ [])) t t

-- what becomes of a request that can't be granted yet: nothing new where it waits already; an abort where it would close a cycle of
-- waits; else it waits
abbrev pub waits : Workload → List Noted → Txn → Request → Option Entry
waits w p t request = if is_waiting p t then None else if closes_waits w p t request then Some (Abort t causes.Deadlock (acts.Commit request)) else Some (Wait t request)

-- the answer to a commit that the sites allow, given the verdict
abbrev pub decided : Workload → List Noted → Txn → Request → Verdict → Option Entry
decided w p t request (verdicts.Reject why) = Some (Abort t (cause_of why) (acts.Commit request))
decided w p t request verdicts.Grant = Some (Commit t request (up_holders w p request.writes))
decided w p t request verdicts.Wait = waits w p t request

-- the answer to a commit, given why the sites refuse it, if they do
abbrev pub answered : Workload → List Noted → Txn → Request → Option Cause → Option Entry
answered w p t request (Some why) = Some (Abort t why (acts.Commit request))
answered w p t request None = decided w p t request (verdict w p (writing t (stamp p t) request.writes))

-- the answer to a commit request, new or waiting; none where it waits already and goes on waiting
abbrev pub answer_commit : Workload → List Noted → Txn → Request → Option Entry
answer_commit w p t request = answered w p t request (site_refusal w p request)
