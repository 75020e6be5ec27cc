-- A program goes on: what the driver does, and what follows for the site.
use Rattle.std.proofs.Common.{◌≡◌, ℤ, Bool, true, false, not, if◌then◌else◌, List, [], ◌∷◌, ◌++◌, map, filter, Option, ap, sym, ◌∙◌, refl, append-nil}
use Rattle.std.specs.Option.{option_map_or}
use Rattle.raid_base.specs.declared.names.Txn.{Txn}
use Rattle.raid_base.specs.declared.names.Item.{Item}
use Rattle.raid_base.specs.declared.names.Site.{Site}
use Rattle.raid_base.specs.Names.{has_txn}
use Rattle.raid_program.specs.declared.program.Want.{Want}
use Rattle.raid_program.specs.declared.program.Want.TheVariants as wants
use Rattle.raid_program.specs.Run.{Outcome, outcome_of, given}
use Rattle.raid_workload.specs.declared.workload.Workload.{Workload}
use Rattle.raid_workload.specs.Parts.{program}
use Rattle.raid_legal.specs.Seen.{holds_some}
use Rattle.raid_message.specs.declared.letter.Message.TheVariants as letters
use Rattle.raid_steps.specs.State.{Out, Turn, Phase, preparing, sent, SiteState}
use Rattle.raid_steps.specs.Programs.{put_running, with_running, turn_to, prepare, prepare_out, held_by, voters}
use Rattle.raid_steps.specs.Programs as steps
use Rattle.raid_steps.specs.Copies.{stage}
use Rattle.raid_access.specs.Stock.{staging}
use Rattle.raid_driver.specs.declared.task.Doing.TheVariants.{Done, Over}
use Rattle.raid_driver.specs.declared.task.Task.{Task}
use Rattle.raid_driver.specs.Drive.{Drive, Ascends, txns_of, done_of, task_of, put_task, is_done, writes_in, writes_of, come_to, come_to_outs, fresh}
use Rattle.raid_driver.specs.Drive as drive
use Rattle.raid_driver.proofs.Places.{put_ascends}
use Rattle.raid_vote.specs.declared.changes.Ballot.{Ballot}
use Rattle.raid_vote.specs.Ballots.{is_of, started, close}
use Rattle.raid_site.specs.declared.parts.Parts.{Parts}
use Rattle.raid_site.specs.Whole.{Same, phase_of, running_of, state_of, turn, is_over, settled}
use Rattle.raid_site.proofs.Phases.{same_all, same_closed, own_closed, same_more, own_more, put_same, put_found, over_found}

-- the parts with a program in its place
abbrev pub putting : Parts → Task → Parts
putting p r = record p { driver = record (p.driver) { running = put_task r p.driver.running } }

-- the site with a program in its place, given the ballots
pub put_turn : (state : SiteState) (outs : List Out) (bs cs : List Ballot) (r : Task) (rs : List Task) → Same r.txn bs cs → Ascends (txns_of rs) →
    (let T : Turn SiteState = record { state = record state { running = map (running_of cs) (put_task r rs) }; outs = outs } in T)
    ≡ with_running (record { state = record state { running = map (running_of bs) rs }; outs = outs }) (running_of cs r)
put_turn state outs bs cs r rs same ascends = ap (λ qs. let T : Turn SiteState = record { state = record state { running = qs }; outs = outs } in T) (sym (put_same bs cs r rs same ascends))

over_put : (r : Task) (rs : List Task) → Ascends (txns_of rs) → has_txn (done_of (put_task r rs)) r.txn ≡ is_done r.doing
over_put r rs ascends = over_found r.txn r (put_task r rs) (put_ascends r rs ascends) (put_found r rs)

-- a program that isn't done yet
not_over : (w : Workload) (p : Parts) (outs : List Out) (r : Task) → Ascends (txns_of p.driver.running) → is_done r.doing ≡ false →
    settled w (putting p r) outs r.txn (is_over (putting p r) r.txn) ≡ with_running (turn p outs) (running_of p.ballots.ballots r)
not_over w p outs r ascends goes =
    ap (settled w (putting p r) outs r.txn) (over_put r p.driver.running ascends ∙ goes)
    ∙ put_turn (state_of p) outs p.ballots.ballots p.ballots.ballots r p.driver.running (same_all r.txn p.ballots.ballots) ascends

-- one that is done
abbrev prepared_by : Workload → Parts → List Out → Txn → List (Item × ℤ) → Turn SiteState
prepared_by w p outs t writes =
    turn (record p { copies = if holds_some w writes p.site then staging p.copies t (held_by w p.site writes) else p.copies; ballots = started t (voters w (state_of p) writes) (close t p.ballots) })
    (outs ++ map (prepare_out w p.vector t writes) (voters w (state_of p) writes))

ballots_after : Txn → List Site → List Ballot → List Ballot
ballots_after t vs bs = filter (λ b. not (is_of t b)) bs ++ record { txn = t; awaited = vs } ∷ []

same_after : (t : Txn) (vs : List Site) (bs : List Ballot) → Same t bs (filter (λ b. not (is_of t b)) bs ++ record { txn = t; awaited = vs } ∷ [])
same_after t vs bs u other = same_closed t bs u other ∙ same_more t vs (filter (λ b. not (is_of t b)) bs) u other

phase_after : (t : Txn) (vs : List Site) (bs : List Ballot) (reads writes : List (Item × ℤ)) →
    phase_of (filter (λ b. not (is_of t b)) bs ++ record { txn = t; awaited = vs } ∷ []) t (Done reads writes) ≡ preparing reads writes vs
phase_after t vs bs reads writes = ap (λ (o : Option Ballot). option_map_or (λ (b : Ballot). preparing reads writes b.awaited) o sent) (own_more t vs (filter (λ b. not (is_of t b)) bs) (own_closed t bs))

done_with : (w : Workload) (p : Parts) (outs : List Out) (r : Task) (o : Outcome) (ph : Phase) (b : Bool) → Ascends (txns_of p.driver.running) → holds_some w o.writes p.site ≡ b →
    (let vs = voters w (state_of p) o.writes in
    let q = putting p (record r { doing = Done o.reads o.writes }) in
    turn (record q { copies = if b then staging p.copies r.txn (held_by w p.site o.writes) else p.copies; ballots = started r.txn vs (close r.txn p.ballots) }) (outs ++ map (prepare_out w p.vector r.txn o.writes) vs))
    ≡ prepare w (turn p outs) (record { txn = r.txn; answers = r.answers; asks = r.asks; phase = ph }) o
done_with w p outs r o ph true ascends here =
    let vs = voters w (state_of p) o.writes in
    let bs = p.ballots.ballots in
    let cs = filter (λ b. not (is_of r.txn b)) bs ++ record { txn = r.txn; awaited = vs } ∷ [] in
    let state : SiteState = record (state_of p) { staged = stage r.txn (held_by w p.site o.writes) p.copies.staged } in
    let more = outs ++ map (prepare_out w p.vector r.txn o.writes) vs in
    rw here (put_turn state more bs cs (record r { doing = Done o.reads o.writes }) p.driver.running (same_after r.txn vs bs) ascends
    ∙ ap (λ z. with_running (record { state = state; outs = more }) (record { txn = r.txn; answers = r.answers; asks = r.asks; phase = z })) (phase_after r.txn vs bs o.reads o.writes))
done_with w p outs r o ph false ascends here =
    let vs = voters w (state_of p) o.writes in
    let bs = p.ballots.ballots in
    let cs = filter (λ b. not (is_of r.txn b)) bs ++ record { txn = r.txn; awaited = vs } ∷ [] in
    let state : SiteState = state_of p in
    let more = outs ++ map (prepare_out w p.vector r.txn o.writes) vs in
    rw here (put_turn state more bs cs (record r { doing = Done o.reads o.writes }) p.driver.running (same_after r.txn vs bs) ascends
    ∙ ap (λ z. with_running (record { state = state; outs = more }) (record { txn = r.txn; answers = r.answers; asks = r.asks; phase = z })) (phase_after r.txn vs bs o.reads o.writes))

written : (r : Task) (rs : List Task) → writes_of (put_task r rs) r.txn ≡ writes_in r.doing
written r rs = ap (λ (o : Option Task). option_map_or (λ (q : Task). writes_in q.doing) o []) (put_found r rs)

now_over : (w : Workload) (p : Parts) (outs : List Out) (r : Task) (o : Outcome) (ph : Phase) → Ascends (txns_of p.driver.running) →
    (let q = putting p (record r { doing = Done o.reads o.writes }) in settled w q outs r.txn (is_over q r.txn))
    ≡ prepare w (turn p outs) (record { txn = r.txn; answers = r.answers; asks = r.asks; phase = ph }) o
now_over w p outs r o ph ascends =
    let d : Task = record r { doing = Done o.reads o.writes } in
    let q = putting p d in
    ap (settled w q outs r.txn) (over_put d p.driver.running ascends)
    ∙ ap (prepared_by w q outs r.txn) (written d p.driver.running)
    ∙ done_with w p outs r o ph (holds_some w o.writes p.site) ascends refl

-- a program comes to what it comes to
pub come_row : (w : Workload) (p : Parts) (outs : List Out) (r : Task) (o : Outcome) (ph : Phase) (e : Want) → Ascends (txns_of p.driver.running) →
    settled w (putting p (come_to r o e)) (outs ++ come_to_outs r o e) r.txn (is_over (putting p (come_to r o e)) r.txn)
    ≡ turn_to w (turn p outs) (record { txn = r.txn; answers = r.answers; asks = r.asks; phase = ph }) o e
come_row w p outs r o ph (wants.Read x) ascends = not_over w p (outs ++ drive.ask_out r x ∷ []) (drive.asking r x) ascends refl
come_row w p outs r o ph wants.Done ascends =
    let d : Task = record r { doing = Done o.reads o.writes } in
    let q = putting p d in
    ap (λ os. settled w q os r.txn (is_over q r.txn)) (append-nil outs) ∙ now_over w p outs r o ph ascends
come_row w p outs r o ph wants.Own ascends = not_over w p (outs ++ come_to_outs r o wants.Own) (record r { doing = Over }) ascends refl
come_row w p outs r o ph wants.Overflow ascends = not_over w p (outs ++ come_to_outs r o wants.Overflow) (record r { doing = Over }) ascends refl

-- a transaction begins
pub begin_row : (w : Workload) (p : Parts) (outs : List Out) (t : Txn) → Ascends (txns_of p.driver.running) →
    (let T = drive.begin w (drive.turn p.driver outs) t in
    let q : Parts = record p { driver = T.state } in
    settled w q T.outs t (is_over q t)) ≡ steps.begin w (turn p outs) t
begin_row w p outs t ascends =
    let o = outcome_of (program w t) (given []) in
    come_row w p (outs ++ (1, 0, letters.Begin t) ∷ []) (fresh t) o sent o.end ascends
