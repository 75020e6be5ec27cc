-- What the moves of a site's step leave as it was, and what each program has come to once all were gone through.
use Rattle.std.proofs.Common.{ℕ, Bool, true, false, if◌then◌else◌, ◌∙◌, refl}
use Rattle.raid_program.specs.declared.program.Outcome.{Outcome}
use Rattle.raid_workload.specs.declared.workload.Workload.{Workload}
use Rattle.raid_legal.specs.Seen.{holds_some}
use Rattle.raid_message.specs.declared.letter.Message.TheVariants as letters
use Rattle.raid_message.specs.declared.letter.Letter.{Letter}
use Rattle.raid_steps.specs.State.{Turn, tell, preparing, Running, SiteState}
use Rattle.raid_steps.specs.Copies.{stage}
use Rattle.raid_steps.specs.Programs as programs
use Rattle.raid_moves.specs.After.{Leaves}
use Rattle.raid_moves.specs.Moves as parts
use Rattle.raid_moves.specs.Moves.{Ascend, Tells, Says, comes_to, Goes, but, Row, Move, Moves}

left : (a : SiteState) → Leaves a a
left a = record { site = refl; up = refl; session = refl; vector = refl; copies = refl }

pub leaves_on : {a b c : SiteState} → Leaves a b → Leaves b c → Leaves a c
leaves_on l m = record { site = m.site ∙ l.site; up = m.up ∙ l.up; session = m.session ∙ l.session; vector = m.vector ∙ l.vector; copies = m.copies ∙ l.copies }

pub goes_leave : (w : Workload) (turn : Turn SiteState) (r : Running) {after : Turn SiteState} → Goes w turn r after → Leaves turn.state after.state
goes_leave w turn r (parts.reads_next x e) = record { site = refl; up = refl; session = refl; vector = refl; copies = refl }
goes_leave w turn r (parts.prepares e) = go (holds_some w o.writes turn.state.site)
  where
    o : Outcome
    o = comes_to w r

    now : Running
    now = record r { phase = preparing o.reads o.writes (programs.voters w turn.state o.writes) }

    go : (b : Bool) → (let s : SiteState = (if b then record (turn.state) { staged = stage r.txn (programs.held_by w turn.state.site o.writes) turn.state.staged } else turn.state) in Leaves turn.state (record s { running = programs.put_running now s.running }))
    go true = record { site = refl; up = refl; session = refl; vector = refl; copies = refl }
    go false = record { site = refl; up = refl; session = refl; vector = refl; copies = refl }
goes_leave w turn r (parts.stops e) = record { site = refl; up = refl; session = refl; vector = refl; copies = refl }
goes_leave w turn r (parts.overflows e) = record { site = refl; up = refl; session = refl; vector = refl; copies = refl }

module _ (w : Workload) (state : SiteState) (from : ℕ) (letter : Letter) where
  pub move_leaves : {turn after : Turn SiteState} → Move w state from letter turn after → Leaves turn.state after.state
  move_leaves {turn = turn} (parts.begins s n l g) = leaves_on (let same : Leaves turn.state (parts.passed w turn).state = record { site = refl; up = refl; session = refl; vector = refl; copies = refl } in same) (goes_leave w (tell (parts.passed w turn) (letters.Begin (parts.next_of turn))) (parts.fresh (parts.next_of turn)) g)
  move_leaves (parts.asks r k x s q f p m i) = record { site = refl; up = refl; session = refl; vector = refl; copies = refl }
  move_leaves (parts.loses r read writes awaited s f p m) = record { site = refl; up = refl; session = refl; vector = refl; copies = refl }
  move_leaves (parts.joins r read writes awaited s n f p m h) = record { site = refl; up = refl; session = refl; vector = refl; copies = refl }
  move_leaves (parts.commits r read writes f p m) = record { site = refl; up = refl; session = refl; vector = refl; copies = refl }

  pub moves_leave : {turn last : Turn SiteState} → Moves w state from letter turn last → Leaves turn.state last.state
  moves_leave {turn = turn} parts.done = left turn.state
  moves_leave (parts.moves m rest) = leaves_on (move_leaves m) (moves_leave rest)
