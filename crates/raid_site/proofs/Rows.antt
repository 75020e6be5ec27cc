-- What each call on the parts is among the rows of a site.
use Rattle.std.proofs.Common.{◌≡◌, ℕ, ℤ, ◌==◌, Bool, true, false, not, if◌then◌else◌, List, [], ◌∷◌, ◌++◌, map, filter, length, Option, Some, None, arith, ap, sym, subst, ◌∙◌, refl, append-nil}
use Rattle.std.specs.Prelude.{find, option_map, ◌&&◌, ◌||◌}
use Rattle.std.specs.Option.{option_map_or}
use Rattle.std.specs.List.{list_any}
use Rattle.std.proofs.lemmas.Bool.{eqb-true}
use Rattle.raid_base.specs.declared.names.Txn.{Txn}
use Rattle.raid_base.specs.declared.names.Item.{Item}
use Rattle.raid_base.specs.declared.names.Site.{Site}
use Rattle.raid_base.specs.Names.{is_txn, has_txn}
use Rattle.raid_program.specs.Run.{outcome_of, put, given}
use Rattle.raid_workload.specs.declared.workload.Workload.{Workload}
use Rattle.raid_workload.specs.Parts.{program}
use Rattle.raid_message.specs.declared.letter.Message.TheVariants as letters
use Rattle.raid_steps.specs.State.{Out, Turn, with_state, tell, asking, preparing, sent, Running, SiteState}
use Rattle.raid_steps.specs.Programs.{following, next_attempt, with_running, give_to, prepare_out, with_vote, without_vote, change}
use Rattle.raid_steps.specs.Programs as steps
use Rattle.raid_steps.specs.Copies as copying
use Rattle.raid_steps.specs.Site as rows
use Rattle.raid_access.specs.Stock.{applying}
use Rattle.raid_driver.specs.declared.task.Doing.{Doing}
use Rattle.raid_driver.specs.declared.task.Doing.TheVariants.{Asking, Done, Over}
use Rattle.raid_driver.specs.declared.task.Task.{Task}
use Rattle.raid_driver.specs.Drive.{Drive, Keeps, Ascends, txns_of, done_of, task_of, put_task, is_done, reads_of, writes_of, reads_in, writes_in, gave, gave_outs, gone, gone_outs, answered, noted_at}
use Rattle.raid_driver.specs.Drive as drive
use Rattle.raid_driver.proofs.Places.{found_txn}
use Rattle.raid_driver.proofs.Kept.{keeps_without}
use Rattle.raid_vote.specs.declared.changes.Ballot.{Ballot}
use Rattle.raid_vote.specs.Ballots.{is_of, awaiting, changed, without}
use Rattle.raid_vote.specs.Ballots as votes
use Rattle.raid_site.specs.declared.parts.Parts.{Parts}
use Rattle.raid_site.specs.Whole.{Same, phase_of, running_of, state_of, turn, is_over, settled}
use Rattle.raid_site.proofs.Phases.{same_all, same_closed, same_changed, own_changed, running_same, running_found, left_same, put_back, over_found}
use Rattle.raid_site.proofs.Going.{putting, put_turn, come_row, begin_row}

pub same_txn : (t u : Txn) → is_txn t u ≡ true → u ≡ t
same_txn t u is = ap (λ n. let z : Txn = record { 0 = n } in z) (eqb-true u.0 t.0 is)

-- a transaction that doesn't go into preparation
idle : (w : Workload) (p : Parts) (outs : List Out) (t : Txn) (b : Bool) → b ≡ false → settled w p outs t b ≡ turn p outs
idle w p outs t b is = ap (settled w p outs t) is

never : (b : Bool) → not b && b ≡ false
never true = refl
never false = refl

-- the driver after a value came, given the program that it found
abbrev gave_turn : Workload → Parts → List Out → Txn → ℕ → ℤ → Option Task → Turn SiteState
gave_turn w p outs t k v o =
    let q : Parts = record p { driver = record (p.driver) { running = option_map_or (λ (r : Task). put_task (gave (program w t) k v r) p.driver.running) o p.driver.running } } in
    settled w q (outs ++ option_map_or (gave_outs (program w t) k v) o []) t (not (is_over p t) && is_over q t)

-- nothing has changed
still : (w : Workload) (p : Parts) (outs : List Out) (t : Txn) (rs : List Task) → rs ≡ p.driver.running →
    settled w (record p { driver = record (p.driver) { running = rs } }) (outs ++ []) t (not (is_over p t) && has_txn (done_of rs) t) ≡ turn p outs
still w p outs t rs same =
    ap (λ qs. settled w (record p { driver = record (p.driver) { running = qs } }) (outs ++ []) t (not (is_over p t) && has_txn (done_of qs) t)) same
    ∙ idle w p (outs ++ []) t (not (is_over p t) && is_over p t) (never (is_over p t))
    ∙ ap (turn p) (append-nil outs)

-- a program that doesn't ask takes no value
not_asking : (w : Workload) (T : Turn SiteState) (k : ℕ) (v : ℤ) (q : Running) (reads writes : List (Item × ℤ)) (o : Option Ballot) →
    give_to w T k v q (option_map_or (λ (b : Ballot). preparing reads writes b.awaited) o sent) ≡ T
not_asking w T k v q reads writes None = refl
not_asking w T k v q reads writes (Some b) = refl

asked_case : (w : Workload) (p : Parts) (outs : List Out) (k : ℕ) (v : ℤ) (u : Txn) (held : List (Item × ℤ)) (n j : ℕ) (x : Item) (s : Option Site) (c : Bool) → Ascends (txns_of p.driver.running) →
    (let r : Task = record { txn = u; answers = held; asks = n; doing = Asking j x s } in task_of p.driver.running u ≡ Some r) →
    (let r : Task = record { txn = u; answers = held; asks = n; doing = Asking j x s } in
    let prog = program w u in
    let o = if c then Some x else None in
    let q : Parts = record p { driver = record (p.driver) { running = put_task (option_map_or (λ y. gone prog (answered r v y)) o r) p.driver.running } } in
    settled w q (outs ++ option_map_or (λ y. gone_outs prog (answered r v y)) o []) u (not (is_over p u) && is_over q u))
    ≡ (if c then steps.go_on w (turn p outs) (record { txn = u; answers = put held x v; asks = n; phase = asking j x s }) else turn p outs)
asked_case w p outs k v u held n j x s true ascends found =
    let r : Task = record { txn = u; answers = held; asks = n; doing = Asking j x s } in
    let o = outcome_of (program w u) (given (put held x v)) in
    let q = putting p (gone (program w u) (answered r v x)) in
    ap (λ b. settled w q (outs ++ gone_outs (program w u) (answered r v x)) u (not b && is_over q u)) (over_found u r p.driver.running ascends found)
    ∙ come_row w p outs (answered r v x) o (asking j x s) o.end ascends
asked_case w p outs k v u held n j x s false ascends found =
    let r : Task = record { txn = u; answers = held; asks = n; doing = Asking j x s } in
    still w p outs u (put_task r p.driver.running) (put_back p.driver.running u r ascends found)

give_some : (w : Workload) (p : Parts) (outs : List Out) (k : ℕ) (v : ℤ) (u : Txn) (held : List (Item × ℤ)) (n : ℕ) (d : Doing) → Ascends (txns_of p.driver.running) →
    (let r : Task = record { txn = u; answers = held; asks = n; doing = d } in task_of p.driver.running u ≡ Some r) →
    (let r : Task = record { txn = u; answers = held; asks = n; doing = d } in
    gave_turn w p outs u k v (Some r) ≡ give_to w (turn p outs) k v (running_of p.ballots.ballots r) (phase_of p.ballots.ballots u d))
give_some w p outs k v u held n (Asking j x s) ascends found = asked_case w p outs k v u held n j x s (j == k) ascends found
give_some w p outs k v u held n (Done reads writes) ascends found =
    let r : Task = record { txn = u; answers = held; asks = n; doing = Done reads writes } in
    still w p outs u (put_task r p.driver.running) (put_back p.driver.running u r ascends found)
    ∙ sym (not_asking w (turn p outs) k v (running_of p.ballots.ballots r) reads writes (find (is_of u) p.ballots.ballots))
give_some w p outs k v u held n Over ascends found =
    let r : Task = record { txn = u; answers = held; asks = n; doing = Over } in
    still w p outs u (put_task r p.driver.running) (put_back p.driver.running u r ascends found)

give_cases : (w : Workload) (p : Parts) (outs : List Out) (t : Txn) (k : ℕ) (v : ℤ) (o : Option Task) → Ascends (txns_of p.driver.running) → task_of p.driver.running t ≡ o →
    gave_turn w p outs t k v o ≡ option_map_or (λ (q : Running). give_to w (turn p outs) k v q q.phase) (option_map (running_of p.ballots.ballots) o) (turn p outs)
give_cases w p outs t k v None ascends found = still w p outs t p.driver.running refl
give_cases w p outs t k v (Some r) ascends found =
    let number = same_txn t r.txn (found_txn p.driver.running t r found) in
    subst (λ (z : Txn). gave_turn w p outs z k v (Some r) ≡ give_to w (turn p outs) k v (running_of p.ballots.ballots r) (phase_of p.ballots.ballots r.txn r.doing)) number
    (give_some w p outs k v r.txn r.answers r.asks r.doing ascends (ap (task_of p.driver.running) number ∙ found))

-- a value comes
pub give_row : (w : Workload) (p : Parts) (outs : List Out) (t : Txn) (k : ℕ) (v : ℤ) → Ascends (txns_of p.driver.running) →
    (let T = drive.give w (drive.turn p.driver outs) t k v in
    let q : Parts = record p { driver = T.state } in
    settled w q T.outs t (not (is_over p t) && is_over q t)) ≡ steps.give w (turn p outs) t k v
give_row w p outs t k v ascends =
    give_cases w p outs t k v (task_of p.driver.running t) ascends refl
    ∙ ap (λ (o : Option Running). option_map_or (λ (q : Running). give_to w (turn p outs) k v q q.phase) o (turn p outs)) (sym (running_found p.ballots.ballots t p.driver.running))

pub given_by : (w : Workload) (p : Parts) (d : Drive) (outs os : List Out) (t : Txn) (k : ℕ) (v : ℤ) (was now : Bool) → drive.turn d os ≡ drive.give w (drive.turn p.driver outs) t k v →
    was ≡ is_over p t → now ≡ is_over (record p { driver = d }) t → Ascends (txns_of p.driver.running) →
    settled w (record p { driver = d }) os t (not was && now) ≡ steps.give w (turn p outs) t k v
given_by w p d outs os t k v was now is first second ascends =
    ap (λ b. settled w (record p { driver = d }) os t (not b && now)) first
    ∙ ap (λ b. settled w (record p { driver = d }) os t (not (is_over p t) && b)) second
    ∙ ap (λ (T : Turn Drive). let q : Parts = record p { driver = T.state } in settled w q T.outs t (not (is_over p t) && is_over q t)) is
    ∙ give_row w p outs t k v ascends

-- the next transaction begins
begun_at : (w : Workload) (p : Parts) (outs : List Out) (k : ℕ) (b : Bool) (t : Txn) → Ascends (txns_of p.driver.running) → p.driver.site ≡ p.site → Some t ≡ (if b then None else Some (record { 0 = k })) →
    (let T = if b then drive.turn p.driver outs else drive.begin w (drive.turn (record (p.driver) { next = following w p.driver.site k }) outs) (record { 0 = k }) in
    let q : Parts = record p { driver = T.state } in settled w q T.outs t (is_over q t))
    ≡ (if b then turn p outs else steps.begin w (record { state = record (state_of p) { next = following w p.site k }; outs = outs }) (record { 0 = k }))
begun_at w p outs k true t ascends same which = absurd (cc which)
begun_at w p outs k false t ascends same which =
    let first : Txn = record { 0 = k } in
    let number : t ≡ first = cc which in
    let q : Parts = record p { driver = record (p.driver) { next = following w p.driver.site k } } in
    let T = drive.begin w (drive.turn q.driver outs) first in
    let z : Parts = record p { driver = T.state } in
    ap (λ u. settled w z T.outs u (is_over z u)) number
    ∙ begin_row w q outs first ascends
    ∙ ap (λ s. steps.begin w (record { state = record (state_of p) { next = following w s k }; outs = outs }) first) same

pub begun_by : (w : Workload) (p : Parts) (d : Drive) (outs os : List Out) (t : Txn) (over : Bool) → drive.turn d os ≡ drive.begin_next w (drive.turn p.driver outs) → Some t ≡ drive.next_txn p.driver →
    over ≡ is_over (record p { driver = d }) t → p.driver.site ≡ p.site → Ascends (txns_of p.driver.running) →
    settled w (record p { driver = d }) os t over ≡ steps.begin_next w (turn p outs)
begun_by w p d outs os t over is which now same ascends =
    ap (settled w (record p { driver = d }) os t) now
    ∙ ap (λ (T : Turn Drive). let q : Parts = record p { driver = T.state } in settled w q T.outs t (is_over q t)) is
    ∙ begun_at w p outs p.driver.next (p.driver.next == 0) t ascends same which

-- the site that serves an ask is noted
noted_case : (bs : List Ballot) (u : Txn) (j : ℕ) (x : Item) (s : Site) (q : Option Site) (c : Bool) → phase_of bs u (if c then Asking j x (Some s) else Asking j x q) ≡ (if c then asking j x (Some s) else asking j x q)
noted_case bs u j x s q true = refl
noted_case bs u j x s q false = refl

noted_done : (k : ℕ) (s : Site) (reads writes : List (Item × ℤ)) (o : Option Ballot) →
    (let ph = option_map_or (λ (b : Ballot). preparing reads writes b.awaited) o sent in ph ≡ steps.noted_at k s ph)
noted_done k s reads writes None = refl
noted_done k s reads writes (Some b) = refl

noted_phase : (bs : List Ballot) (u : Txn) (k : ℕ) (s : Site) (d : Doing) → phase_of bs u (noted_at k s d) ≡ steps.noted_at k s (phase_of bs u d)
noted_phase bs u k s (Asking j x q) = noted_case bs u j x s q (j == k)
noted_phase bs u k s (Done reads writes) = noted_done k s reads writes (find (is_of u) bs)
noted_phase bs u k s Over = refl

noted_cases : (p : Parts) (outs : List Out) (k : ℕ) (s : Site) (o : Option Task) → Ascends (txns_of p.driver.running) →
    (let rs = p.driver.running in turn (record p { driver = record (p.driver) { running = option_map_or (λ (r : Task). put_task (record r { doing = noted_at k s r.doing }) rs) o rs } }) outs)
    ≡ option_map_or (λ (q : Running). with_running (turn p outs) (record q { phase = steps.noted_at k s q.phase })) (option_map (running_of p.ballots.ballots) o) (turn p outs)
noted_cases p outs k s None ascends = refl
noted_cases p outs k s (Some r) ascends =
    let bs = p.ballots.ballots in
    put_turn (state_of p) outs bs bs (record r { doing = noted_at k s r.doing }) p.driver.running (same_all r.txn bs) ascends
    ∙ ap (λ z. with_running (turn p outs) (record { txn = r.txn; answers = r.answers; asks = r.asks; phase = z })) (noted_phase bs r.txn k s r.doing)

pub serving : (p : Parts) (outs : List Out) (t : Txn) (k : ℕ) (s : Site) → Ascends (txns_of p.driver.running) →
    turn (record p { driver = drive.noting p.driver t k s }) outs ≡ change (turn p outs) t (steps.noted_at k s)
serving p outs t k s ascends =
    noted_cases p outs k s (task_of p.driver.running t) ascends
    ∙ ap (λ (o : Option Running). option_map_or (λ (q : Running). with_running (turn p outs) (record q { phase = steps.noted_at k s q.phase })) o (turn p outs)) (sym (running_found p.ballots.ballots t p.driver.running))

-- the ballot of one transaction changes
pub ballot_turn : (state : SiteState) (outs : List Out) (bs cs : List Ballot) (r : Task) (rs : List Task) → task_of rs r.txn ≡ Some r → Same r.txn bs cs → Ascends (txns_of rs) →
    (let T : Turn SiteState = record { state = record state { running = map (running_of cs) rs }; outs = outs } in T)
    ≡ with_running (record { state = record state { running = map (running_of bs) rs }; outs = outs }) (running_of cs r)
ballot_turn state outs bs cs r rs found same ascends =
    ap (λ qs. let T : Turn SiteState = record { state = record state { running = map (running_of cs) qs }; outs = outs } in T) (sym (put_back rs r.txn r ascends found))
    ∙ put_turn state outs bs cs r rs same ascends

none_same_cons : (t : Txn) (bs cs : List Ballot) (r : Task) (rs : List Task) (b : Bool) → is_txn t r.txn ≡ b → (if b then Some r else task_of rs t) ≡ None → Same t bs cs →
    (task_of rs t ≡ None → map (running_of bs) rs ≡ map (running_of cs) rs) → map (running_of bs) (r ∷ rs) ≡ map (running_of cs) (r ∷ rs)
none_same_cons t bs cs r rs true this none same rest = absurd (cc none)
none_same_cons t bs cs r rs false this none same rest =
    ap (λ q. q ∷ map (running_of bs) rs) (running_same t r bs cs same this) ∙ ap (λ qs. running_of cs r ∷ qs) (rest none)

none_same : (t : Txn) (bs cs : List Ballot) (rs : List Task) → task_of rs t ≡ None → Same t bs cs → map (running_of bs) rs ≡ map (running_of cs) rs
none_same t bs cs [] none same = refl
none_same t bs cs (r ∷ rs) none same = none_same_cons t bs cs r rs (is_txn t r.txn) refl none same (λ rest. none_same t bs cs rs rest same)

-- a vote counts
voted_phase : (bs : List Ballot) (u : Txn) (s : Site) (d : Doing) → phase_of (map (changed u (without s)) bs) u d ≡ without_vote s (phase_of bs u d)
voted_phase bs u s (Asking j x q) = refl
voted_phase bs u s (Done reads writes) =
    ap (λ (o : Option Ballot). option_map_or (λ (b : Ballot). preparing reads writes b.awaited) o sent) (own_changed u (without s) bs) ∙ voted_done s reads writes (find (is_of u) bs)
  where
    voted_done : (s : Site) (reads writes : List (Item × ℤ)) (o : Option Ballot) →
        option_map_or (λ (b : Ballot). preparing reads writes b.awaited) (option_map (awaiting (without s)) o) sent ≡ without_vote s (option_map_or (λ (b : Ballot). preparing reads writes b.awaited) o sent)
    voted_done s reads writes None = refl
    voted_done s reads writes (Some b) = refl
voted_phase bs u s Over = refl

voted_cases : (p : Parts) (outs : List Out) (t : Txn) (s : Site) (o : Option Task) → Ascends (txns_of p.driver.running) → task_of p.driver.running t ≡ o →
    turn (record p { ballots = votes.change t (without s) p.ballots }) outs
    ≡ option_map_or (λ (q : Running). with_running (turn p outs) (record q { phase = without_vote s q.phase })) (option_map (running_of p.ballots.ballots) o) (turn p outs)
voted_cases p outs t s None ascends found =
    let bs = p.ballots.ballots in
    ap (λ qs. let T : Turn SiteState = record { state = record (state_of p) { running = qs }; outs = outs } in T) (sym (none_same t bs (map (changed t (without s)) bs) p.driver.running found (same_changed t (without s) bs)))
voted_cases p outs t s (Some r) ascends found =
    let number = same_txn t r.txn (found_txn p.driver.running t r found) in
    let bs = p.ballots.ballots in
    subst (λ (z : Txn). turn (record p { ballots = votes.change z (without s) p.ballots }) outs ≡ with_running (turn p outs) (record { txn = r.txn; answers = r.answers; asks = r.asks; phase = without_vote s (phase_of bs r.txn r.doing) })) number
    (ballot_turn (state_of p) outs bs (map (changed r.txn (without s)) bs) r p.driver.running (ap (task_of p.driver.running) number ∙ found) (same_changed r.txn (without s) bs) ascends
    ∙ ap (λ z. with_running (turn p outs) (record { txn = r.txn; answers = r.answers; asks = r.asks; phase = z })) (voted_phase bs r.txn s r.doing))

pub voted : (p : Parts) (outs : List Out) (t : Txn) (s : Site) → Ascends (txns_of p.driver.running) →
    turn (record p { ballots = votes.change t (without s) p.ballots }) outs ≡ change (turn p outs) t (without_vote s)
voted p outs t s ascends =
    voted_cases p outs t s (task_of p.driver.running t) ascends refl
    ∙ ap (λ (o : Option Running). option_map_or (λ (q : Running). with_running (turn p outs) (record q { phase = without_vote s q.phase })) o (turn p outs)) (sym (running_found p.ballots.ballots t p.driver.running))

-- a transaction has ended
pub has_ended : (p : Parts) (outs : List Out) (t : Txn) →
    turn (record p { driver = drive.ended p.driver t; ballots = votes.close t p.ballots }) outs ≡ steps.ended (turn p outs) t
has_ended p outs t =
    let bs = p.ballots.ballots in
    ap (λ qs. let T : Turn SiteState = record { state = record (state_of p) { running = qs }; outs = outs } in T) (sym (left_same t bs (filter (λ b. not (is_of t b)) bs) p.driver.running (same_closed t bs)))

-- a transaction asks to commit, or not
pub open_none : (u : Txn) (bs : List Ballot) → find (is_of u) bs ≡ None → list_any (is_of u) bs ≡ false
open_none u [] none = refl
open_none u (b ∷ bs) none = none_cons u b bs (is_of u b) refl none (open_none u bs)
  where
    none_cons : (u : Txn) (b : Ballot) (bs : List Ballot) (y : Bool) → is_of u b ≡ y → (if y then Some b else find (is_of u) bs) ≡ None → (find (is_of u) bs ≡ None → list_any (is_of u) bs ≡ false) →
        y || list_any (is_of u) bs ≡ false
    none_cons u b bs true is none rest = absurd (cc none)
    none_cons u b bs false is none rest = rest none

pub open_some : (u : Txn) (c : Ballot) (bs : List Ballot) → find (is_of u) bs ≡ Some c → list_any (is_of u) bs ≡ true
open_some u c [] some = absurd (cc some)
open_some u c (b ∷ bs) some = some_cons u b c bs (is_of u b) some (open_some u c bs)
  where
    some_cons : (u : Txn) (b c : Ballot) (bs : List Ballot) (y : Bool) → (if y then Some b else find (is_of u) bs) ≡ Some c → (find (is_of u) bs ≡ Some c → list_any (is_of u) bs ≡ true) → y || list_any (is_of u) bs ≡ true
    some_cons u b c bs true some rest = refl
    some_cons u b c bs false some rest = rest some

-- a transaction has ended, and the next attempt begins
still_ascends : (t : Txn) (rs : List Task) → Ascends (txns_of rs) → Ascends (txns_of (filter (λ (r : Task). not (is_txn t r.txn)) rs))
still_ascends t rs ascends =
    let k : Keeps rs (txns_of rs) (done_of rs) = record { ascends = ascends; lists = refl; done = refl } in
    (keeps_without t rs (filter (λ (r : Task). not (is_txn t r.txn)) rs) (txns_of rs) (done_of rs) (filter (λ u. not (is_txn t u)) (txns_of rs)) (filter (λ u. not (is_txn t u)) (done_of rs)) refl refl refl k).ascends

pub begun_again : (w : Workload) (p : Parts) (d : Drive) (outs os : List Out) (t : Txn) (over : Bool) → drive.turn d os ≡ drive.again w (drive.turn p.driver outs) t →
    over ≡ has_txn (done_of d.running) (next_attempt w t) → Ascends (txns_of p.driver.running) →
    settled w (record p { driver = d; ballots = votes.close t p.ballots }) os (next_attempt w t) over ≡ steps.begin w (steps.ended (turn p outs) t) (next_attempt w t)
begun_again w p d outs os t over is now ascends =
    let next = next_attempt w t in
    let q : Parts = record p { driver = drive.ended p.driver t; ballots = votes.close t p.ballots } in
    ap (settled w (record p { driver = d; ballots = votes.close t p.ballots }) os next) now
    ∙ ap (λ (T : Turn Drive). let z : Parts = record p { driver = T.state; ballots = votes.close t p.ballots } in settled w z T.outs next (is_over z next)) is
    ∙ begin_row w q outs next (still_ascends t p.driver.running ascends)
    ∙ ap (λ T. steps.begin w T next) (has_ended p outs t)

-- staged writes become copies
none_any : {X : Type 0} (test : X → Bool) (xs : List X) → find test xs ≡ None → list_any test xs ≡ false
none_any test [] none = refl
none_any test (x ∷ xs) none = none_any_cons test x xs (test x) none (none_any test xs)
  where
    none_any_cons : {X : Type 0} (test : X → Bool) (x : X) (xs : List X) (y : Bool) → (if y then Some x else find test xs) ≡ None → (find test xs ≡ None → list_any test xs ≡ false) → y || list_any test xs ≡ false
    none_any_cons test x xs true none rest = absurd (cc none)
    none_any_cons test x xs false none rest = rest none

applied_by : (p : Parts) (outs : List Out) (t : Txn) (number : ℕ) (o : Option (Txn × List (Item × ℤ))) → find (λ e. is_txn t e.0) p.copies.staged ≡ o → list_any (λ e. is_txn t e.0) p.copies.staged ≡ true →
    turn (record p { copies = record (p.copies) { copies = option_map_or (λ ps. map (copying.renewed number ps) p.copies.copies) (option_map (λ e. e.1) o) p.copies.copies; staged = copying.unstage t p.copies.staged } }) (outs ++ (1, 0, letters.Ack t) ∷ [])
    ≡ option_map_or (λ ps. tell (with_state (turn p outs) (copying.apply (state_of p) t number ps)) (letters.Ack t)) (option_map (λ e. e.1) o) (turn p outs)
applied_by p outs t number None is some = absurd (let e : true ≡ false = sym some ∙ none_any (λ e. is_txn t e.0) p.copies.staged is in cc e)
applied_by p outs t number (Some e) is some = refl

pub applied : (p : Parts) (outs : List Out) (t : Txn) (number : ℕ) → list_any (λ e. is_txn t e.0) p.copies.staged ≡ true →
    turn (record p { copies = applying p.copies t number }) (outs ++ (1, 0, letters.Ack t) ∷ []) ≡ rows.apply_row (turn p outs) t number
applied p outs t number some = applied_by p outs t number (find (λ e. is_txn t e.0) p.copies.staged) refl some

-- the site is welcomed while nothing runs
welcome_by : (p : Parts) (outs : List Out) (v : List ℕ) (next : ℕ) (rs : List Task) → length rs ≡ 0 →
    (let T : Turn SiteState = record { state = record (state_of p) { vector = v; next = next; running = [] }; outs = outs } in T)
    ≡ record { state = record (state_of p) { vector = v; next = next; running = map (running_of p.ballots.ballots) rs }; outs = outs }
welcome_by p outs v next [] none = refl
welcome_by p outs v next (r ∷ rs) none = absurd (omega (arith, none))

pub welcomed : (p : Parts) (outs : List Out) (v : List ℕ) (next : ℕ) → length p.driver.running ≡ 0 →
    turn (record p { vector = v; driver = drive.cleared p.driver next; ballots = record { ballots = []; room = p.ballots.room } }) outs ≡ with_state (turn p outs) (record (state_of p) { vector = v; next = next })
welcomed p outs v next none = welcome_by p outs v next p.driver.running none
