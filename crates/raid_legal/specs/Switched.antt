-- What switches may do in a history, and when nothing is left to do after it.
use Rattle.std.specs.Prelude.{◌≡◌, ℕ, ◌==◌, nat_lt, Bool, true, false, not, ◌&&◌, ◌||◌, List, [], length, map, take, drop, count_by, Option, Some, None, ⊤}
use Rattle.std.specs.Bool.{OnTrue}
use Rattle.std.specs.List.{list_any, list_all}
use Rattle.std.specs.Option.{option_map_or}
use Rattle.raid_base.specs.declared.names.Txn.{Txn}
use Rattle.raid_base.specs.declared.names.Item.{Item}
use Rattle.raid_base.specs.declared.names.Site.{Site}
use Rattle.raid_base.specs.declared.entry.Entry.{Entry}
use Rattle.raid_base.specs.declared.entry.Entry.TheVariants.{Read, Commit, Abort, SwitchOn}
use Rattle.raid_base.specs.declared.entry.Act.TheVariants as acts
use Rattle.raid_base.specs.declared.entry.Cause.{Cause}
use Rattle.raid_base.specs.declared.entry.Cause.TheVariants.{SwitchOff}
use Rattle.raid_base.specs.declared.entry.Noted.{Noted}
use Rattle.raid_base.specs.declared.verdict.Verdict.{Verdict}
use Rattle.raid_base.specs.declared.verdict.Verdict.TheVariants as verdicts
use Rattle.raid_base.specs.Names.{has_site}
use Rattle.raid_workload.specs.declared.workload.Workload.{Workload}
use Rattle.raid_workload.specs.Parts.{txns, sites, items, home}
use Rattle.raid_rules.specs.Entries.{is_abort, is_switch_on, is_begin_of, is_end_of}
use Rattle.raid_rules.specs.History.{noted, stamp, has_begun}
use Rattle.raid_rules.specs.Verdicts.{Question, reading, writing, verdict_of}
use Rattle.raid_rules.specs.Sessions.{owes}
use Rattle.raid_legal.specs.Seen.{running, is_up, is_locked, sources, attempt, again}
use Rattle.raid_legal.specs.InForce.{in_force, is_joint, controllers, off_list}
use Rattle.raid_legal.specs.Forced.{forced}
use Rattle.raid_legal.specs.Legal.{EachSeeing}

-- the switch that a cause of abort names, if it names one
abbrev pub switch_of : Cause → Option ℕ
switch_of (SwitchOff k) = Some k
switch_of other = None

-- the entry is an Abort that names the switch
abbrev pub is_aborted_by : ℕ → Entry → Bool
is_aborted_by k = is_abort (λ t cause. option_map_or (λ j. j == k) (switch_of cause) false)

-- the switch that the cause names, if it names one, has come on in the prefix
abbrev pub is_after_switch : List Noted → Cause → Bool
is_after_switch p cause = option_map_or (λ k. list_any (λ n. is_switch_on (λ j. j == k) n.entry) p) (switch_of cause) true

-- the Aborts of these transactions stand directly behind the switch's SwitchOn, whose number is at, and no other Abort names the switch
pub record AbortsJust (h : List Entry) (at k : ℕ) (ts : List Txn) : Type 0 where
  pub follow : take (length ts) (drop at h) ≡ map (λ t. Abort t (SwitchOff k) acts.Nothing) ts
  pub no_other : count_by (is_aborted_by k) h ≡ length ts

-- the verdict lets the action be done now
abbrev pub is_granted : Verdict → Bool
is_granted verdicts.Grant = true
is_granted other = false

-- where two controllers are in force, each of them grants the action over its own view
abbrev pub GrantedByAll : Workload → List Noted → Question → Type 0
GrantedByAll w p q = let f = in_force w p in OnTrue (is_joint f) (list_all (λ c. is_granted (verdict_of c.0 c.1 q)) (controllers f p) ≡ true)

-- what must hold of an entry with the number at: a Read or a Commit was granted by all, and a Read came from a source; an Abort that names
-- a switch comes after it; a SwitchOn aborts just its list
abbrev pub SwitchRow : Workload → List Entry → List Noted → ℕ → Entry → Type 0
SwitchRow w h p at (Read t x site) = GrantedByAll w p (reading t (stamp p t) x) × (has_site (sources w p x) site ≡ true)
SwitchRow w h p at (Commit t request applied) = GrantedByAll w p (writing t (stamp p t) request.writes)
SwitchRow w h p at (Abort t cause act) = is_after_switch p cause ≡ true
SwitchRow w h p at (SwitchOn k kind method) = AbortsJust h at k (off_list w p method kind)
SwitchRow w h p at other = ⊤

-- the switches did what they may: each aborted just those of its list; each action during a suffix-sufficient switch was granted by both
-- controllers; and each Read came from a source
abbrev pub Switched : Workload → List Entry → Type 0
Switched w h = EachSeeing (λ p n. SwitchRow w h p n.at n.entry) [] (noted h)

-- the transaction has one Begin and one end, or none of them
abbrev pub is_once : List Noted → Txn → Bool
is_once p t = nat_lt (count_by (λ n. is_begin_of t n.entry) p) 2 && count_by (λ n. is_begin_of t n.entry) p == count_by (λ n. is_end_of t n.entry) p

-- the transaction has begun, or needn't: a first attempt where its home is down, a later one where it isn't due
abbrev pub is_served : Workload → List Noted → Txn → Bool
is_served w p t = has_begun p t || (nat_lt 0 (attempt w t) && not (again w p t)) || (attempt w t == 0 && not (is_up w p (home w t)))

-- the site is down, or its copy of the item isn't locked, or there is nobody to renew it from
abbrev pub is_settled : Workload → List Noted → Site → Item → Bool
is_settled w p s x = not (is_up w p s) || not (is_locked w p s x) || length (sources w p x) == 0

-- nothing is left to do: no entry is forced and nobody runs; each transaction has had its one Begin and one end, or needn't; no copy at
-- an up site could be renewed; and no site owes an Ack
pub record Finished (w : Workload) (h : List Entry) : Type 0 where
  pub unforced : forced w (noted h) ≡ None
  pub ended : running w (noted h) ≡ []
  pub once : list_all (is_once (noted h)) (txns w) ≡ true
  pub served : list_all (is_served w (noted h)) (txns w) ≡ true
  pub settled : list_all (λ s. list_all (is_settled w (noted h) s) (items w)) (sites w) ≡ true
  pub acked : list_any (λ s. list_any (owes (noted h) s) (txns w)) (sites w) ≡ false
