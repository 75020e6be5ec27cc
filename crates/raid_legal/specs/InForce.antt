-- The controllers in force after a prefix, what they say of an action, and when a suffix-sufficient switch is over.
use Rattle.std.specs.Prelude.{ℕ, ◌+◌, nat_lt, Bool, false, not, List, [], ◌∷◌, fold, filter, Option, Some, None, is_some}
use Rattle.std.specs.List.{list_any}
use Rattle.raid_base.specs.declared.names.Txn.{Txn}
use Rattle.raid_base.specs.declared.entry.Entry.{Entry}
use Rattle.raid_base.specs.declared.entry.Entry.TheVariants.{SwitchOn, SwitchEnd}
use Rattle.raid_base.specs.declared.entry.Noted.{Noted}
use Rattle.raid_base.specs.declared.verdict.Kind.{Kind}
use Rattle.raid_base.specs.declared.verdict.Method.{Method}
use Rattle.raid_base.specs.declared.verdict.Method.TheVariants.{Generic, Convert, Suffix}
use Rattle.raid_base.specs.declared.verdict.Verdict.{Verdict}
use Rattle.raid_base.specs.declared.verdict.Verdict.TheVariants.{Grant}
use Rattle.raid_base.specs.Meet.{meeting}
use Rattle.raid_base.specs.Names.{has_txn}
use Rattle.raid_workload.specs.declared.workload.Workload.{Workload}
use Rattle.raid_rules.specs.History.{fold_seeing, stamp}
use Rattle.raid_rules.specs.Conflict.{edges, reached}
use Rattle.raid_rules.specs.Verdicts.{Question, verdict_of}
use Rattle.raid_rules.specs.Views.{View, whole, view_of, abort_list}
use Rattle.raid_legal.specs.Seen.{running}

-- what is in force: the kind and view of the controller (the old one, where there are two); during a suffix-sufficient switch the new
-- one's kind and the number of its SwitchOn; how many switches there were; and whom the last one aborts
pub record InForce : Type 0 where
  pub kind : Kind
  pub view : View
  pub next : Option (Kind × ℕ)
  pub switches : ℕ
  pub off : List Txn

-- what is in force at the start: the workload's opening kind, over the whole history
abbrev pub opening : Workload → InForce
opening w = record { kind = w.kind; view = whole; next = None; switches = 0; off = [] }

-- whom a switch aborts that comes after the prefix, least first
abbrev pub off_list : Workload → List Noted → Method → Kind → List Txn
off_list w p method to = abort_list method to p (running w p)

-- who survives it: the running transactions that it doesn't abort, whose reads a conversion carries over
abbrev pub survivors : Workload → List Noted → Method → Kind → List Txn
survivors w p method to = filter (λ t. not (has_txn (off_list w p method to) t)) (running w p)

-- what a SwitchOn with the number k brings into force, p being what stood before it: another kind over the same view; another kind over
-- the survivors' reads and what comes after; or a second controller over what comes after, next to the first
abbrev pub turn_on : Workload → List Noted → InForce → ℕ → Kind → Method → InForce
turn_on w p f k to Generic = record f { kind = to; switches = f.switches + 1; off = off_list w p Generic to }
turn_on w p f k to Convert = record f { kind = to; view = record { cut = k; keep = survivors w p Convert to }; switches = f.switches + 1; off = off_list w p Convert to }
turn_on w p f k to Suffix = record f { next = Some (to, k); switches = f.switches + 1; off = [] }

-- what a SwitchEnd leaves in force: the new controller, alone and with its view
abbrev pub turn_end : InForce → Option (Kind × ℕ) → InForce
turn_end f None = f
turn_end f (Some c) = record f { kind = c.0; view = record { cut = c.1; keep = [] }; next = None }

-- what any entry leaves in force: only switches change it
abbrev pub turn : Workload → List Noted → InForce → ℕ → Entry → InForce
turn w p f k (SwitchOn j to method) = turn_on w p f k to method
turn w p f k (SwitchEnd j) = turn_end f f.next
turn w p f k other = f

-- what is in force after the prefix
abbrev pub in_force : Workload → List Noted → InForce
in_force w p = fold_seeing (λ before f n. turn w before f n.at n.entry) [] (opening w) p

-- two controllers are in force: a suffix-sufficient switch is on
abbrev pub is_joint : InForce → Bool
is_joint f = is_some f.next

-- the view that has what comes after the number: that of a new controller
abbrev pub past : ℕ → View
past k = record { cut = k; keep = [] }

-- the new controller with the entries of its view, where there is one
abbrev pub newer : List Noted → Option (Kind × ℕ) → List (Kind × List Noted)
newer p None = []
newer p (Some c) = (c.0, view_of (past c.1) p) ∷ []

-- the controllers in force, each with the entries of its view, the old one first
abbrev pub controllers : InForce → List Noted → List (Kind × List Noted)
controllers f p = (f.kind, view_of f.view p) ∷ newer p f.next

-- what they say of an action: the meeting of their verdicts
abbrev pub verdict : Workload → List Noted → Question → Verdict
verdict w p q = fold (λ v c. meeting v (verdict_of c.0 c.1 q)) Grant (controllers (in_force w p) p)

-- the transaction began before the entry with this number, or conflicts lead from it to one that did: it ties the new controller to the old one
abbrev pub is_tied : List Noted → ℕ → Txn → Bool
is_tied p k t = list_any (λ u. nat_lt (stamp p u) k) (t ∷ reached (edges p) t)

-- no running transaction is tied to the time before the SwitchOn, where one is on
abbrev pub is_over : Workload → List Noted → Option (Kind × ℕ) → Bool
is_over w p None = false
is_over w p (Some c) = not (list_any (is_tied p c.1) (running w p))

-- a suffix-sufficient switch is on, and its end is due
abbrev pub end_due : Workload → List Noted → Bool
end_due w p = is_over w p (in_force w p).next
