-- What each call leaves of parts that fit one another.
use Rattle.std.proofs.Common.{◌≡◌, ℕ, ℤ, suc, ◌+◌, ◌<◌, ◌≤◌, ◌==◌, nat_lt, Bool, true, false, not, ◌||◌, if◌then◌else◌, List, [], ◌∷◌, ◌++◌, map, filter, length, Option, Some, None, arith, ap, sym, subst, ◌∙◌, refl}
use Rattle.std.specs.Option.{option_map_or}
use Rattle.std.proofs.lemmas.List.{map-append}
use Rattle.raid_base.specs.declared.names.Txn.{Txn}
use Rattle.raid_base.specs.declared.names.Item.{Item}
use Rattle.raid_base.specs.declared.names.Site.{Site}
use Rattle.raid_base.specs.Names.{is_txn, has_txn}
use Rattle.raid_program.specs.declared.program.Statement.{Statement}
use Rattle.raid_program.specs.declared.program.Want.{Want}
use Rattle.raid_program.specs.declared.program.Want.TheVariants as wants
use Rattle.raid_program.specs.Run.{Outcome, outcome_of, given}
use Rattle.raid_workload.specs.declared.workload.Workload.{Workload}
use Rattle.raid_workload.specs.Parts.{program}
use Rattle.raid_legal.specs.Seen.{holds_some}
use Rattle.raid_steps.specs.State.{Out, Turn}
use Rattle.raid_steps.specs.Programs.{following, next_attempt, held_by}
use Rattle.raid_access.specs.Stock.{Stock, staging}
use Rattle.raid_driver.specs.declared.task.Task.{Task}
use Rattle.raid_driver.specs.Drive.{Drive, Ascends, txns_of, done_of, is_done, task_of, put_task, come_to, gone, gave, answered, asked, after_value, after_note, noted_at, fresh, lost, writes_of}
use Rattle.raid_driver.specs.Drive as drive
use Rattle.raid_driver.proofs.Kept.{lost_txns}
use Rattle.raid_vote.specs.declared.changes.Ballot.{Ballot}
use Rattle.raid_vote.specs.Ballots.{is_of, awaiting, changed, close, change, change_all}
use Rattle.raid_site.specs.declared.parts.Parts.{Parts}
use Rattle.raid_site.specs.Whole.{open_txns, Whole, IsWhole, prepared, voters_of}
use Rattle.raid_site.proofs.Phases.{put_back}
use Rattle.raid_site.proofs.Seats.{without_txn, put_txn, length_put, has_put_own, begins, ends, closes, opens, again, room_left}

-- the transactions of programs
txns_case : (r q : Task) (qs : List Task) (b c : Bool) → txns_of (put_task r qs) ≡ put_txn r.txn (txns_of qs) →
    txns_of (if b then r ∷ qs else if c then r ∷ q ∷ qs else q ∷ put_task r qs) ≡ (if b then r.txn ∷ txns_of qs else if c then r.txn ∷ q.txn ∷ txns_of qs else q.txn ∷ put_txn r.txn (txns_of qs))
txns_case r q qs true c rest = refl
txns_case r q qs false true rest = refl
txns_case r q qs false false rest = ap (λ ts. q.txn ∷ ts) rest

pub txns_put : (r : Task) (rs : List Task) → txns_of (put_task r rs) ≡ put_txn r.txn (txns_of rs)
txns_put r [] = refl
txns_put r (q ∷ qs) = txns_case r q qs (is_txn r.txn q.txn) (nat_lt r.txn.0 q.txn.0) (txns_put r qs)

left_case : (q : Task) (qs : List Task) (b : Bool) → txns_of (if b then q ∷ qs else qs) ≡ (if b then q.txn ∷ txns_of qs else txns_of qs)
left_case q qs true = refl
left_case q qs false = refl

pub txns_left : (t : Txn) (rs : List Task) → txns_of (filter (λ (r : Task). not (is_txn t r.txn)) rs) ≡ without_txn t (txns_of rs)
txns_left t [] = refl
txns_left t (q ∷ rs) = left_case q (filter (λ (r : Task). not (is_txn t r.txn)) rs) (not (is_txn t q.txn)) ∙ ap (λ ts. if not (is_txn t q.txn) then q.txn ∷ ts else ts) (txns_left t rs)

come_txn : (r : Task) (o : Outcome) (e : Want) → (come_to r o e).txn ≡ r.txn
come_txn r o (wants.Read x) = refl
come_txn r o wants.Done = refl
come_txn r o wants.Own = refl
come_txn r o wants.Overflow = refl

gone_txn : (p : List Statement) (r : Task) → (gone p r).txn ≡ r.txn
gone_txn p r = let o = outcome_of p (given r.answers) in come_txn r o o.end

gave_case : (p : List Statement) (v : ℤ) (r : Task) (o : Option Item) → (option_map_or (λ x. gone p (answered r v x)) o r).txn ≡ r.txn
gave_case p v r None = refl
gave_case p v r (Some x) = gone_txn p (answered r v x)

gave_txn : (p : List Statement) (k : ℕ) (v : ℤ) (r : Task) → (gave p k v r).txn ≡ r.txn
gave_txn p k v r = gave_case p v r (asked k r.doing)

-- a program in the place of what it was
put_same : (rs : List Task) (t : Txn) (q r : Task) → Ascends (txns_of rs) → task_of rs t ≡ Some q → r.txn ≡ q.txn → txns_of (put_task r rs) ≡ txns_of rs
put_same rs t q r ascends found number =
    txns_put r rs ∙ ap (λ z. put_txn z (txns_of rs)) number ∙ sym (txns_put q rs) ∙ ap txns_of (put_back rs t q ascends found)

value_case : (p : List Statement) (t : Txn) (k : ℕ) (v : ℤ) (rs : List Task) (o : Option Task) → Ascends (txns_of rs) → task_of rs t ≡ o →
    txns_of (option_map_or (λ (r : Task). put_task (gave p k v r) rs) o rs) ≡ txns_of rs
value_case p t k v rs None ascends found = refl
value_case p t k v rs (Some q) ascends found = put_same rs t q (gave p k v q) ascends found (gave_txn p k v q)

pub value_txns : (p : List Statement) (t : Txn) (k : ℕ) (v : ℤ) (rs : List Task) → Ascends (txns_of rs) → txns_of (after_value p t k v rs) ≡ txns_of rs
value_txns p t k v rs ascends = value_case p t k v rs (task_of rs t) ascends refl

note_case : (t : Txn) (k : ℕ) (s : Site) (rs : List Task) (o : Option Task) → Ascends (txns_of rs) → task_of rs t ≡ o →
    txns_of (option_map_or (λ (r : Task). put_task (record r { doing = noted_at k s r.doing }) rs) o rs) ≡ txns_of rs
note_case t k s rs None ascends found = refl
note_case t k s rs (Some q) ascends found = put_same rs t q (record q { doing = noted_at k s q.doing }) ascends found refl

pub note_txns : (t : Txn) (k : ℕ) (s : Site) (rs : List Task) → Ascends (txns_of rs) → txns_of (after_note t k s rs) ≡ txns_of rs
note_txns t k s rs ascends = note_case t k s rs (task_of rs t) ascends refl

-- a program that is done runs
or_more : (a b c : Bool) → (a || b) ≡ true → (b ≡ true → c ≡ true) → (a || c) ≡ true
or_more true b c here rest = refl
or_more false b c here rest = rest here

or_last : (a b : Bool) → b ≡ true → (a || b) ≡ true
or_last true b is = refl
or_last false b is = is

done_case : (t : Txn) (q : Task) (qs rs : List Task) (b : Bool) → has_txn (txns_of (if b then q ∷ qs else qs)) t ≡ true → (has_txn (txns_of qs) t ≡ true → has_txn (txns_of rs) t ≡ true) → has_txn (q.txn ∷ txns_of rs) t ≡ true
done_case t q qs rs true here rest = or_more (is_txn t q.txn) (has_txn (txns_of qs) t) (has_txn (txns_of rs) t) here rest
done_case t q qs rs false here rest = or_last (is_txn t q.txn) (has_txn (txns_of rs) t) (rest here)

pub done_runs : (t : Txn) (rs : List Task) → has_txn (done_of rs) t ≡ true → has_txn (txns_of rs) t ≡ true
done_runs t [] here = here
done_runs t (q ∷ rs) here = done_case t q (filter (λ (r : Task). is_done r.doing) rs) rs (is_done q.doing) here (done_runs t rs)

-- the transactions of ballots
open_case : (b : Ballot) (bs : List Ballot) (c : Bool) → open_txns (if c then b ∷ bs else bs) ≡ (if c then b.txn ∷ open_txns bs else open_txns bs)
open_case b bs true = refl
open_case b bs false = refl

pub open_left : (t : Txn) (bs : List Ballot) → open_txns (filter (λ b. not (is_of t b)) bs) ≡ without_txn t (open_txns bs)
open_left t [] = refl
open_left t (b ∷ bs) = open_case b (filter (λ c. not (is_of t c)) bs) (not (is_txn t b.txn)) ∙ ap (λ ts. if not (is_txn t b.txn) then b.txn ∷ ts else ts) (open_left t bs)

changed_txn : (f : List Site → List Site) (b : Ballot) (c : Bool) → (if c then awaiting f b else b).txn ≡ b.txn
changed_txn f b true = refl
changed_txn f b false = refl

pub open_changed : (t : Txn) (f : List Site → List Site) (bs : List Ballot) → open_txns (map (changed t f) bs) ≡ open_txns bs
open_changed t f [] = refl
open_changed t f (b ∷ bs) = ap (λ z. z ∷ open_txns (map (changed t f) bs)) (changed_txn f b (is_of t b)) ∙ ap (λ zs. b.txn ∷ zs) (open_changed t f bs)

pub open_all : (f : List Site → List Site) (bs : List Ballot) → open_txns (map (awaiting f) bs) ≡ open_txns bs
open_all f [] = refl
open_all f (b ∷ bs) = ap (λ zs. b.txn ∷ zs) (open_all f bs)

length_open : (bs : List Ballot) → length (open_txns bs) ≡ length bs
length_open [] = refl
length_open (b ∷ bs) = ap suc (length_open bs)

pub length_txns : (rs : List Task) → length (txns_of rs) ≡ length rs
length_txns [] = refl
length_txns (r ∷ rs) = ap suc (length_txns rs)

-- Parts after a call.

-- other programs of the same transactions, other ballots of the same
pub same_whole : (w : Workload) (p : Parts) (rs : List Task) (bs : List Ballot) → txns_of rs ≡ txns_of p.driver.running → open_txns bs ≡ open_txns p.ballots.ballots → IsWhole w p →
    Whole w.together (txns_of rs) (open_txns bs) p.ballots.room p.copies.site p.site
same_whole w p rs bs programs ballots whole =
    subst (λ ts. Whole w.together ts (open_txns bs) p.ballots.room p.copies.site p.site) (sym programs)
    (subst (λ vs. Whole w.together (txns_of p.driver.running) vs p.ballots.room p.copies.site p.site) (sym ballots) whole)

pub value_whole : (w : Workload) (p : Parts) (d : Drive) (outs os : List Out) (t : Txn) (k : ℕ) (v : ℤ) → drive.turn d os ≡ drive.give w (drive.turn p.driver outs) t k v → Ascends (txns_of p.driver.running) →
    IsWhole w p → IsWhole w (record p { driver = d })
value_whole w p d outs os t k v is ascends whole =
    same_whole w p d.running p.ballots.ballots (ap (λ (T : Turn Drive). txns_of T.state.running) is ∙ value_txns (program w t) t k v p.driver.running ascends) refl whole

-- one has begun
pub begun_txns : (w : Workload) (d : Drive) (outs : List Out) (t : Txn) → txns_of (drive.begin w (drive.turn d outs) t).state.running ≡ put_txn t (txns_of d.running)
begun_txns w d outs t = txns_put (gone (program w t) (fresh t)) d.running ∙ ap (λ z. put_txn z (txns_of d.running)) (gone_txn (program w t) (fresh t))

begun_case : (w : Workload) (p : Parts) (outs : List Out) (b : Bool) → length p.driver.running < w.together → IsWhole w p →
    (let T = if b then drive.turn p.driver outs else drive.begin w (drive.turn (record (p.driver) { next = following w p.driver.site p.driver.next }) outs) (record { 0 = p.driver.next }) in
    IsWhole w (record p { driver = T.state }))
begun_case w p outs true fewer whole = whole
begun_case w p outs false fewer whole =
    let t : Txn = record { 0 = p.driver.next } in
    let d : Drive = record (p.driver) { next = following w p.driver.site p.driver.next } in
    let ts = txns_of p.driver.running in
    subst (λ zs. Whole w.together zs (open_txns p.ballots.ballots) p.ballots.room p.copies.site p.site) (sym (begun_txns w d outs t))
    (begins w.together ts (open_txns p.ballots.ballots) p.ballots.room p.copies.site p.site whole t (subst (λ n. n < w.together) (sym (length_txns p.driver.running)) fewer))

pub begun_whole : (w : Workload) (p : Parts) (d : Drive) (outs os : List Out) → drive.turn d os ≡ drive.begin_next w (drive.turn p.driver outs) → length p.driver.running < w.together → IsWhole w p →
    IsWhole w (record p { driver = d })
begun_whole w p d outs os is fewer whole =
    subst (λ (T : Turn Drive). IsWhole w (record p { driver = T.state })) (sym is) (begun_case w p outs (p.driver.next == 0) fewer whole)

more_case : (w : Workload) (p : Drive) (outs : List Out) (b : Bool) →
    length (if b then drive.turn p outs else drive.begin w (drive.turn (record p { next = following w p.site p.next }) outs) (record { 0 = p.next })).state.running ≤ length p.running + 1
more_case w p outs true = omega arith
more_case w p outs false =
    let t : Txn = record { 0 = p.next } in
    let d : Drive = record p { next = following w p.site p.next } in
    let rs = (drive.begin w (drive.turn d outs) t).state.running in
    let one = ap length (begun_txns w d outs t) in
    let most = length_put t (txns_of p.running) in
    let before = length_txns p.running in
    let after = length_txns rs in
    omega (arith, one, most, before, after)

pub begun_more : (w : Workload) (p d : Drive) (outs os : List Out) → drive.turn d os ≡ drive.begin_next w (drive.turn p outs) → length d.running ≤ length p.running + 1
begun_more w p d outs os is = subst (λ (T : Turn Drive). length T.state.running ≤ length p.running + 1) (sym is) (more_case w p outs (p.next == 0))

-- one has ended
pub ended_whole : (w : Workload) (p : Parts) (t : Txn) → IsWhole w p → IsWhole w (record p { driver = drive.ended p.driver t; ballots = close t p.ballots })
ended_whole w p t whole =
    subst (λ zs. Whole w.together zs (open_txns (close t p.ballots).ballots) p.ballots.room p.copies.site p.site) (sym (txns_left t p.driver.running))
    (subst (λ zs. Whole w.together (without_txn t (txns_of p.driver.running)) zs p.ballots.room p.copies.site p.site) (sym (open_left t p.ballots.ballots))
    (ends w.together (txns_of p.driver.running) (open_txns p.ballots.ballots) p.ballots.room p.copies.site p.site whole t))

-- one that ran begins again, as another transaction
pub again_whole : (w : Workload) (p : Parts) (d : Drive) (outs os : List Out) (t : Txn) → drive.turn d os ≡ drive.again w (drive.turn p.driver outs) t → has_txn (txns_of p.driver.running) t ≡ true → IsWhole w p →
    IsWhole w (record p { driver = d; ballots = close t p.ballots })
again_whole w p d outs os t is runs whole =
    let u = next_attempt w t in
    let programs = ap (λ (T : Turn Drive). txns_of T.state.running) is ∙ begun_txns w (drive.ended p.driver t) outs u ∙ ap (put_txn u) (txns_left t p.driver.running) in
    subst (λ zs. Whole w.together zs (open_txns (close t p.ballots).ballots) p.ballots.room p.copies.site p.site) (sym programs)
    (subst (λ zs. Whole w.together (put_txn u (without_txn t (txns_of p.driver.running))) zs p.ballots.room p.copies.site p.site) (sym (open_left t p.ballots.ballots))
    (again w.together (txns_of p.driver.running) (open_txns p.ballots.ballots) p.ballots.room p.copies.site p.site whole t u runs))

pub again_runs : (w : Workload) (d e : Drive) (outs os : List Out) (t : Txn) → drive.turn e os ≡ drive.again w (drive.turn d outs) t → has_txn (txns_of e.running) (next_attempt w t) ≡ true
again_runs w d e outs os t is =
    let u = next_attempt w t in
    ap (λ (T : Turn Drive). has_txn (txns_of T.state.running) u) is ∙ ap (λ ts. has_txn ts u) (begun_txns w (drive.ended d t) outs u) ∙ has_put_own u (txns_of (drive.ended d t).running)

-- a ballot is closed, or awaits other sites
pub closed_whole : (w : Workload) (p : Parts) (t : Txn) → IsWhole w p → IsWhole w (record p { ballots = close t p.ballots })
closed_whole w p t whole =
    subst (λ zs. Whole w.together (txns_of p.driver.running) zs p.ballots.room p.copies.site p.site) (sym (open_left t p.ballots.ballots))
    (closes w.together (txns_of p.driver.running) (open_txns p.ballots.ballots) p.ballots.room p.copies.site p.site whole t)

pub changed_whole : (w : Workload) (p : Parts) (t : Txn) (f : List Site → List Site) → IsWhole w p → IsWhole w (record p { ballots = change t f p.ballots })
changed_whole w p t f whole = same_whole w p p.driver.running (change t f p.ballots).ballots refl (open_changed t f p.ballots.ballots) whole

-- a transaction that runs is prepared
pub room_before : (w : Workload) (p : Parts) (t : Txn) → IsWhole w p → has_txn (txns_of p.driver.running) t ≡ true → length (close t p.ballots).ballots < p.ballots.room
room_before w p t whole runs =
    let left = (close t p.ballots).ballots in
    let less = room_left w.together (txns_of p.driver.running) (open_txns p.ballots.ballots) p.ballots.room p.copies.site p.site whole t runs in
    subst (λ n. n < p.ballots.room) (ap length (sym (open_left t p.ballots.ballots)) ∙ length_open left) less

stored_case : (s : Stock) (t : Txn) (own : List (Item × ℤ)) (b : Bool) → (if b then staging s t own else s).site ≡ s.site
stored_case s t own true = refl
stored_case s t own false = refl

pub prepared_whole : (w : Workload) (p : Parts) (t : Txn) → IsWhole w p → has_txn (txns_of p.driver.running) t ≡ true → IsWhole w (prepared w p t)
prepared_whole w p t whole runs =
    let writes = writes_of p.driver.running t in
    let ts = txns_of p.driver.running in
    let vs = voters_of w p t in
    let own = held_by w p.site writes in
    let b : Ballot = record { txn = t; awaited = vs } in
    subst (λ s. Whole w.together ts (open_txns ((close t p.ballots).ballots ++ b ∷ [])) p.ballots.room s p.site) (sym (stored_case p.copies t own (holds_some w writes p.site)))
    (subst (λ zs. Whole w.together ts zs p.ballots.room p.copies.site p.site)
    (sym (map-append (λ (z : Ballot). z.txn) (close t p.ballots).ballots (b ∷ []) ∙ ap (λ zs. zs ++ t ∷ []) (open_left t p.ballots.ballots)))
    (opens w.together ts (open_txns p.ballots.ballots) p.ballots.room p.copies.site p.site whole t runs))

-- another site serves a read; a site is down
pub noted_whole : (w : Workload) (p : Parts) (d : Drive) (t : Txn) (k : ℕ) (s : Site) → d ≡ (if p.driver.finished then p.driver else drive.noting p.driver t k s) → p.driver.finished ≡ false → Ascends (txns_of p.driver.running) →
    IsWhole w p → IsWhole w (record p { driver = d })
noted_whole w p d t k s is live ascends whole =
    let noted = drive.noting p.driver t k s in
    subst (λ (z : Drive). IsWhole w (record p { driver = z })) (sym (is ∙ ap (λ b. if b then p.driver else noted) live))
    (same_whole w p noted.running p.ballots.ballots (note_txns t k s p.driver.running ascends) refl whole)

pub lost_whole : (w : Workload) (p : Parts) (s : Site) (f : List Site → List Site) → IsWhole w p →
    IsWhole w (record p { driver = record (p.driver) { running = map (lost s) p.driver.running }; ballots = change_all f p.ballots })
lost_whole w p s f whole = same_whole w p (map (lost s) p.driver.running) (change_all f p.ballots).ballots (lost_txns s p.driver.running) (open_all f p.ballots.ballots) whole
