-- What an entry does to the tables, and which copies are sent for.
use Rattle.std.specs.Prelude.{◌≡◌, ℕ, Bool, true, not, ◌&&◌, ◌||◌, List, [], ◌∷◌, ◌++◌, filter, map, Option, None, option_map, slice_get, if◌then◌else◌}
use Rattle.std.specs.List.{list_any}
use Rattle.raid_base.specs.declared.names.Txn.{Txn}
use Rattle.raid_base.specs.declared.names.Item.{Item}
use Rattle.raid_base.specs.declared.names.Site.{Site}
use Rattle.raid_base.specs.declared.request.Request.{Request}
use Rattle.raid_base.specs.declared.entry.Entry.{Entry}
use Rattle.raid_base.specs.declared.entry.Entry.TheVariants.{Wait, Commit, Abort, Down, Up}
use Rattle.raid_base.specs.declared.entry.Noted.{Noted}
use Rattle.raid_base.specs.Names.{is_txn, is_item, is_site}
use Rattle.raid_workload.specs.declared.workload.Workload.{Workload}
use Rattle.raid_workload.specs.Parts.{home}
use Rattle.raid_legal.specs.Seen.{is_restartable, is_locked, sources}
use Rattle.raid_message.specs.declared.letter.Message.{Message}
use Rattle.raid_message.specs.declared.letter.Message.TheVariants as letters
use Rattle.raid_steps.specs.State.{Out, Copying}
use Rattle.raid_steps.specs.Sequencer.{copy_out}
use Rattle.raid_faillock.specs.Stands.{is_of_sites}
use Rattle.raid_copier.specs.declared.copiers.Copiers.{Copiers}
use Rattle.raid_copier.specs.Copiers as copiers
use Rattle.raid_waits.specs.Waiting.{is_among}
use Rattle.raid_record.specs.declared.sends.Notice.{Notice}
use Rattle.raid_record.specs.declared.sends.Notice.TheVariants as notices

-- those that wait after an entry
abbrev pub turn_waits : List (Txn × Request) → Entry → List (Txn × Request)
turn_waits rs (Wait t request) = rs ++ (t, request) ∷ []
turn_waits rs (Commit t request applied) = filter (λ r. not (is_txn t r.0)) rs
turn_waits rs (Abort t cause act) = filter (λ r. not (is_txn t r.0)) rs
turn_waits rs other = rs

-- a Wait comes of a transaction that isn't among those that wait
abbrev pub waits_anew : List (Txn × Request) → Entry → Bool
waits_anew rs (Wait t request) = not (is_among rs t)
waits_anew rs other = true

-- whether the transaction is one whose program may be tried again, after an entry
abbrev pub turn_left : Workload → Txn → Bool → Entry → Bool
turn_left w t left (Abort u cause act) = left || (is_txn t u && is_restartable cause)
turn_left w t left (Down site) = left && not (is_site site (home w t))
turn_left w t left other = left

-- the site of an Up is one of the sites
abbrev pub may_send : Workload → Entry → Bool
may_send w (Up site session) = is_of_sites w.sites site
may_send w other = true

-- the copy of the item at the site that is to be renewed, if it is, given those under way
abbrev pub copy_due : Workload → List Noted → List Copying → Site → Item → Option Copying
copy_due w p out s x =
    if is_locked w p s x && not (list_any (λ c. is_site s c.target && is_item x c.item) out)
    then option_map (λ r. record { target = s; item = x; source = r }) (slice_get (sources w p x) 0)
    else None

-- the copies under way with more of them, and the letters that were sent for those
pub record Asked (v : List ℕ) (c : Copiers) (before after : List Out) (out due : List Copying) : Type 0 where
  pub copying : copiers.Stands c (out ++ due)
  pub outs : after ≡ before ++ map (copy_out v) due

-- the message of a notice
abbrev pub message_of : Notice → Message
message_of (notices.Drop t again) = letters.Drop t again
message_of (notices.Down s) = letters.DownNote s
message_of (notices.Up s n) = letters.UpNote s n
