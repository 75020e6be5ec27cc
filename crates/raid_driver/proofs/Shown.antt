-- What a site's steps do to its programs is what the driver does to them, and, where a program is done, what prepares its transaction.
use Rattle.std.proofs.Common.{◌≡◌, ℕ, ℤ, suc, ◌<◌, ◌==◌, nat_lt, Bool, true, false, not, ◌||◌, if◌then◌else◌, List, [], ◌∷◌, map, filter, length, Option, Some, None, arith, ap, sym, ◌∙◌, refl}
use Rattle.std.specs.Prelude.{find, option_map}
use Rattle.std.specs.List.{list_any, All}
use Rattle.std.specs.Option.{option_map_or}
use Rattle.std.proofs.lemmas.List.Elements.{All-head, All-tail}
use Rattle.raid_base.specs.declared.names.Txn.{Txn}
use Rattle.raid_base.specs.declared.names.Item.{Item}
use Rattle.raid_base.specs.declared.names.Site.{Site}
use Rattle.raid_base.specs.Names.{is_txn}
use Rattle.raid_program.specs.declared.program.Want.{Want}
use Rattle.raid_program.specs.declared.program.Want.TheVariants as wants
use Rattle.raid_program.specs.Run.{Outcome, outcome_of, given, put}
use Rattle.raid_workload.specs.declared.workload.Workload.{Workload}
use Rattle.raid_workload.specs.Parts.{program}
use Rattle.raid_message.specs.declared.letter.Message.TheVariants as letters
use Rattle.raid_steps.specs.State.{Turn, with_state, sending, tell, Running, SiteState}
use Rattle.raid_steps.specs.Programs as steps
use Rattle.raid_driver.specs.declared.task.Task.{Task}
use Rattle.raid_driver.specs.declared.task.Doing.{Doing}
use Rattle.raid_driver.specs.declared.task.Doing.TheVariants.{Asking, Done, Over}
use Rattle.raid_driver.specs.Drive.{Ascends, txns_of, task_of, put_task, come_to, come_to_outs, gone, gone_outs, is_done, asked, answered, fresh}
use Rattle.raid_driver.specs.Shown.{Votes, phase_of, shown}
use Rattle.raid_driver.proofs.Places.{first_pairs, rest_pairs}

-- the program that was found
found_if : (votes : Votes) (b : Bool) (q : Task) (o : Option Task) → (if b then Some (shown votes q) else option_map (shown votes) o) ≡ option_map (shown votes) (if b then Some q else o)
found_if votes true q o = refl
found_if votes false q o = refl

pub found_shown : (votes : Votes) (rs : List Task) (t : Txn) → find (λ (r : Running). is_txn t r.txn) (map (shown votes) rs) ≡ option_map (shown votes) (task_of rs t)
found_shown votes [] t = refl
found_shown votes (q ∷ rs) t = ap (λ o. if is_txn t q.txn then Some (shown votes q) else o) (found_shown votes rs t) ∙ found_if votes (is_txn t q.txn) q (task_of rs t)

pub runs_shown : (votes : Votes) (rs : List Task) (t : Txn) → list_any (λ (r : Running). is_txn t r.txn) (map (shown votes) rs) ≡ list_any (λ (r : Task). is_txn t r.txn) rs
runs_shown votes [] t = refl
runs_shown votes (q ∷ rs) t = ap (λ b. is_txn t q.txn || b) (runs_shown votes rs t)

pub length_shown : (votes : Votes) (rs : List Task) → length (map (shown votes) rs) ≡ length rs
length_shown votes [] = refl
length_shown votes (q ∷ rs) = ap suc (length_shown votes rs)

-- the programs without one that has ended
without_if : (votes : Votes) (b : Bool) (q : Task) (qs : List Task) → (if b then shown votes q ∷ map (shown votes) qs else map (shown votes) qs) ≡ map (shown votes) (if b then q ∷ qs else qs)
without_if votes true q qs = refl
without_if votes false q qs = refl

pub without_shown : (votes : Votes) (rs : List Task) (t : Txn) → filter (λ (r : Running). not (is_txn t r.txn)) (map (shown votes) rs) ≡ map (shown votes) (filter (λ (r : Task). not (is_txn t r.txn)) rs)
without_shown votes [] t = refl
without_shown votes (q ∷ rs) t =
    ap (λ qs. if not (is_txn t q.txn) then shown votes q ∷ qs else qs) (without_shown votes rs t)
    ∙ without_if votes (not (is_txn t q.txn)) q (filter (λ (r : Task). not (is_txn t r.txn)) rs)

-- votes that agree on other transactions show the other programs alike
abbrev pub AgreeOff : Txn → Votes → Votes → Type 0
AgreeOff t votes after = (u : Txn) → is_txn t u ≡ false → after u ≡ votes u

shown_alike : (votes after : Votes) (q : Task) → after q.txn ≡ votes q.txn → shown votes q ≡ shown after q
shown_alike votes after q same = ap (λ v. let r : Running = record { txn = q.txn; answers = q.answers; asks = q.asks; phase = phase_of v q.doing } in r) (sym same)

abbrev Less : Txn → Txn → Type 0
Less a b = a.0 < b.0

larger_alike : (t : Txn) (votes after : Votes) (qs : List Task) → AgreeOff t votes after → All (Less t) (txns_of qs) → map (shown votes) qs ≡ map (shown after) qs
larger_alike t votes after [] agree all = refl
larger_alike t votes after (q ∷ qs) agree all =
    let more = All-head (Less t) q.txn (txns_of qs) all in
    let other : is_txn t q.txn ≡ false = grind (arith, more) in
    ap (λ r. r ∷ map (shown votes) qs) (shown_alike votes after q (agree q.txn other)) ∙ ap (λ rs. shown after q ∷ rs) (larger_alike t votes after qs agree (All-tail (Less t) q.txn (txns_of qs) all))

-- a program put in its place
put_cons : (votes after : Votes) (r q : Task) (qs : List Task) (b c : Bool) → is_txn r.txn q.txn ≡ b → nat_lt r.txn.0 q.txn.0 ≡ c → AgreeOff r.txn votes after → Ascends (txns_of (q ∷ qs)) →
    steps.put_running (shown after r) (map (shown votes) qs) ≡ map (shown after) (put_task r qs) →
    (if b then shown after r ∷ map (shown votes) qs else if c then shown after r ∷ shown votes q ∷ map (shown votes) qs else shown votes q ∷ steps.put_running (shown after r) (map (shown votes) qs))
    ≡ map (shown after) (if b then r ∷ qs else if c then r ∷ q ∷ qs else q ∷ put_task r qs)
put_cons votes after r q qs true c same less agree ascends rest =
    let all = first_pairs Less q.txn (txns_of qs) ascends in
    let equal : q.txn.0 ≡ r.txn.0 = grind (arith, same) in
    ap (λ rs. shown after r ∷ rs) (larger_alike r.txn votes after qs agree (λ k d below. omega (arith, equal, all k d below)))
put_cons votes after r q qs false true same less agree ascends rest =
    let all = first_pairs Less q.txn (txns_of qs) ascends in
    let before : r.txn.0 < q.txn.0 = grind (arith, less) in
    ap (λ z. shown after r ∷ z ∷ map (shown votes) qs) (shown_alike votes after q (agree q.txn same))
    ∙ ap (λ rs. shown after r ∷ shown after q ∷ rs) (larger_alike r.txn votes after qs agree (λ k d below. omega (arith, before, all k d below)))
put_cons votes after r q qs false false same less agree ascends rest =
    ap (λ z. z ∷ steps.put_running (shown after r) (map (shown votes) qs)) (shown_alike votes after q (agree q.txn same)) ∙ ap (λ rs. shown after q ∷ rs) rest

pub put_shown : (votes after : Votes) (r : Task) (rs : List Task) → AgreeOff r.txn votes after → Ascends (txns_of rs) → steps.put_running (shown after r) (map (shown votes) rs) ≡ map (shown after) (put_task r rs)
put_shown votes after r [] agree ascends = refl
put_shown votes after r (q ∷ qs) agree ascends =
    put_cons votes after r q qs (is_txn r.txn q.txn) (nat_lt r.txn.0 q.txn.0) refl refl agree ascends (put_shown votes after r qs agree (rest_pairs Less q.txn (txns_of qs) ascends))

-- the turn of a site in which these programs run
abbrev pub with_tasks : Votes → Turn SiteState → List Task → Turn SiteState
with_tasks votes now rs = with_state now (record (now.state) { running = map (shown votes) rs })

put_votes : (votes : Votes) (r : Task) (rs : List Task) → Ascends (txns_of rs) → steps.put_running (shown votes r) (map (shown votes) rs) ≡ map (shown votes) (put_task r rs)
put_votes votes r rs ascends = put_shown votes votes r rs (λ u other. refl) ascends

goes_to : (w : Workload) (votes : Votes) (now : Turn SiteState) (rs : List Task) (r : Task) (o : Outcome) (want : Want) → Ascends (txns_of rs) → is_done (come_to r o want).doing ≡ false →
    steps.turn_to w (with_tasks votes now rs) (shown votes r) o want ≡ sending (with_tasks votes now (put_task (come_to r o want) rs)) (come_to_outs r o want)
goes_to w votes now rs r o (wants.Read x) ascends not-done =
    ap (λ qs. sending (with_state now (record (now.state) { running = qs })) (come_to_outs r o (wants.Read x))) (put_votes votes (come_to r o (wants.Read x)) rs ascends)
goes_to w votes now rs r o wants.Done ascends not-done = absurd (cc not-done)
goes_to w votes now rs r o wants.Own ascends not-done =
    ap (λ qs. sending (with_state now (record (now.state) { running = qs })) (come_to_outs r o wants.Own)) (put_votes votes (come_to r o wants.Own) rs ascends)
goes_to w votes now rs r o wants.Overflow ascends not-done =
    ap (λ qs. sending (with_state now (record (now.state) { running = qs })) (come_to_outs r o wants.Overflow)) (put_votes votes (come_to r o wants.Overflow) rs ascends)

prepared_to : (w : Workload) (votes : Votes) (now : Turn SiteState) (r : Task) (o : Outcome) (want : Want) → is_done (come_to r o want).doing ≡ true →
    steps.turn_to w now (shown votes r) o want ≡ steps.prepare w now (shown votes r) o
prepared_to w votes now r o (wants.Read x) done = absurd (cc done)
prepared_to w votes now r o wants.Done done = refl
prepared_to w votes now r o wants.Own done = absurd (cc done)
prepared_to w votes now r o wants.Overflow done = absurd (cc done)

-- a program goes on: where it isn't done, all is as the driver does it
pub goes_on : (w : Workload) (votes : Votes) (now : Turn SiteState) (rs : List Task) (r : Task) → Ascends (txns_of rs) → is_done (gone (program w r.txn) r).doing ≡ false →
    steps.go_on w (with_tasks votes now rs) (shown votes r) ≡ sending (with_tasks votes now (put_task (gone (program w r.txn) r) rs)) (gone_outs (program w r.txn) r)
goes_on w votes now rs r ascends not-done = goes_to w votes now rs r (outcome_of (program w r.txn) (given r.answers)) (outcome_of (program w r.txn) (given r.answers)).end ascends not-done

-- and where it is done, its transaction is prepared
pub is_prepared : (w : Workload) (votes : Votes) (now : Turn SiteState) (r : Task) → is_done (gone (program w r.txn) r).doing ≡ true →
    steps.go_on w now (shown votes r) ≡ steps.prepare w now (shown votes r) (outcome_of (program w r.txn) (given r.answers))
is_prepared w votes now r done = prepared_to w votes now r (outcome_of (program w r.txn) (given r.answers)) (outcome_of (program w r.txn) (given r.answers)).end done

-- a value for an ask: the program that asked goes on, if one did
to_asking : (w : Workload) (votes : Votes) (now : Turn SiteState) (k : ℕ) (v : ℤ) (r : Task) (j : ℕ) (x : Item) (s : Option Site) (b : Bool) → (j == k) ≡ b → r.doing ≡ Asking j x s →
    (if b then steps.go_on w now (record (shown votes r) { answers = put r.answers x v }) else now) ≡ option_map_or (λ y. steps.go_on w now (shown votes (answered r v y))) (if b then Some x else None) now
to_asking w votes now k v r j x s true same is = refl
to_asking w votes now k v r j x s false same is = refl

gives_to : (w : Workload) (votes : Votes) (now : Turn SiteState) (k : ℕ) (v : ℤ) (r : Task) (d : Doing) (vs : Option (List Site)) → r.doing ≡ d →
    steps.give_to w now k v (shown votes r) (phase_of vs d) ≡ option_map_or (λ x. steps.go_on w now (shown votes (answered r v x))) (asked k d) now
gives_to w votes now k v r (Asking j x s) None is = to_asking w votes now k v r j x s (j == k) refl is
gives_to w votes now k v r (Asking j x s) (Some vs) is = to_asking w votes now k v r j x s (j == k) refl is
gives_to w votes now k v r (Done reads writes) None is = refl
gives_to w votes now k v r (Done reads writes) (Some vs) is = refl
gives_to w votes now k v r Over None is = refl
gives_to w votes now k v r Over (Some vs) is = refl

found_gives : (w : Workload) (votes : Votes) (now : Turn SiteState) (k : ℕ) (v : ℤ) (o : Option Task) →
    option_map_or (λ (r : Running). steps.give_to w now k v r r.phase) (option_map (shown votes) o) now
    ≡ option_map_or (λ (r : Task). option_map_or (λ x. steps.go_on w now (shown votes (answered r v x))) (asked k r.doing) now) o now
found_gives w votes now k v None = refl
found_gives w votes now k v (Some r) = gives_to w votes now k v r r.doing (votes r.txn) refl

pub gives : (w : Workload) (votes : Votes) (now : Turn SiteState) (rs : List Task) (t : Txn) (k : ℕ) (v : ℤ) →
    steps.give w (with_tasks votes now rs) t k v
    ≡ option_map_or (λ (r : Task). option_map_or (λ x. steps.go_on w (with_tasks votes now rs) (shown votes (answered r v x))) (asked k r.doing) (with_tasks votes now rs)) (task_of rs t) (with_tasks votes now rs)
gives w votes now rs t k v =
    let turn = with_tasks votes now rs in
    ap (λ o. option_map_or (λ (r : Running). steps.give_to w turn k v r r.phase) o turn) (found_shown votes rs t) ∙ found_gives w votes turn k v (task_of rs t)

begins_by : (w : Workload) (now : Turn SiteState) (t : Txn) (vs : Option (List Site)) →
    steps.begin w now t ≡ steps.go_on w (tell now (letters.Begin t)) (record { txn = t; answers = []; asks = 0; phase = phase_of vs Over })
begins_by w now t None = refl
begins_by w now t (Some vs) = refl

-- a transaction begins as the driver's fresh program that goes on
pub begins : (w : Workload) (votes : Votes) (now : Turn SiteState) (t : Txn) → steps.begin w now t ≡ steps.go_on w (tell now (letters.Begin t)) (shown votes (fresh t))
begins w votes now t = begins_by w now t (votes t)
