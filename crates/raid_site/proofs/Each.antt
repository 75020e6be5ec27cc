-- What is done for each running program, one after another.
use Rattle.std.proofs.Common.{◌≡◌, ℕ, ℤ, zero, suc, ◌+◌, ◌<◌, ◌==◌, nat_lt, Bool, true, false, not, if◌then◌else◌, List, [], ◌∷◌, ◌++◌, map, filter, length, take, drop, Option, Some, None, slice_get, ◌≤◌, arith, ap, sym, subst, ◌∙◌, refl, append-nil, append_assoc}
use Rattle.std.specs.Prelude.{find, fold, flat_map, option_map, ◌&&◌}
use Rattle.std.specs.Option.{option_map_or}
use Rattle.std.specs.List.{All}
use Rattle.std.proofs.lemmas.List.Elements.{All-head, All-tail}
use Rattle.raid_base.specs.declared.names.Txn.{Txn}
use Rattle.raid_base.specs.declared.names.Item.{Item}
use Rattle.raid_base.specs.declared.names.Site.{Site}
use Rattle.raid_base.specs.Names.{is_txn, is_site}
use Rattle.raid_workload.specs.declared.workload.Workload.{Workload}
use Rattle.raid_rules.specs.Sessions.{with_session}
use Rattle.raid_legal.specs.Seen.{holds_some}
use Rattle.raid_message.specs.declared.letter.Message.TheVariants as letters
use Rattle.raid_steps.specs.State.{Out, Turn, Phase, asking, preparing, sent, Running, SiteState}
use Rattle.raid_steps.specs.Programs.{put_running, with_running, prepare_out, with_vote, without_vote, lose, join, ask_commit}
use Rattle.raid_steps.specs.Site.{down_row}
use Rattle.raid_steps.specs.Programs as steps
use Rattle.raid_driver.specs.declared.task.Doing.{Doing}
use Rattle.raid_driver.specs.declared.task.Doing.TheVariants.{Asking, Done, Over}
use Rattle.raid_driver.specs.declared.task.Task.{Task}
use Rattle.raid_driver.specs.Drive.{Drive, Ascends, txns_of, task_of, is_done, reads_of, writes_of, reads_in, writes_in, lost, lost_outs}
use Rattle.raid_driver.specs.Drive as drive
use Rattle.raid_driver.proofs.Places.{first_pairs, rest_pairs}
use Rattle.raid_vote.specs.declared.changes.Ballot.{Ballot}
use Rattle.raid_vote.specs.Ballots.{is_of, is_open, awaited, awaiting, changed, without, close}
use Rattle.raid_vote.specs.Ballots as votes
use Rattle.raid_site.specs.declared.parts.Parts.{Parts}
use Rattle.raid_site.specs.Whole.{Same, phase_of, running_of, state_of, turn, is_due, committing, is_joined, joining}
use Rattle.raid_site.proofs.Phases.{Less, same_closed, own_closed, same_changed, own_changed, all_changed, rest_same, over_found}
use Rattle.raid_site.proofs.Rows.{ballot_turn, open_none, open_some}

abbrev pub txns_in : List Running → List Txn
txns_in rs = map (λ (r : Running). r.txn) rs

pub txns_same : (bs : List Ballot) (rs : List Task) → txns_in (map (running_of bs) rs) ≡ txns_of rs
txns_same bs [] = refl
txns_same bs (r ∷ rs) = ap (λ ts. r.txn ∷ ts) (txns_same bs rs)

abbrev pub at : SiteState → List Running → List Out → Turn SiteState
at state rs outs = record { state = record state { running = rs }; outs = outs }

-- a program in its place in the middle
all_mid : (P : Txn → Type 0) (pre : List Running) (r : Running) (post : List Running) → All P (txns_in (pre ++ r ∷ post)) → P r.txn
all_mid P [] r post all = All-head P r.txn (txns_in post) all
all_mid P (a ∷ pre) r post all = all_mid P pre r post (All-tail P a.txn (txns_in (pre ++ r ∷ post)) all)

put_mid : (q : Running) (pre : List Running) (r : Running) (post : List Running) → q.txn ≡ r.txn → Ascends (txns_in (pre ++ r ∷ post)) → put_running q (pre ++ r ∷ post) ≡ pre ++ q ∷ post
put_mid q [] r post same ascends = let e : is_txn q.txn r.txn ≡ true = grind (arith, ap (λ (t : Txn). t.0) same) in rw e refl
put_mid q (a ∷ pre) r post same ascends =
    let less : a.txn.0 < r.txn.0 = all_mid (Less a.txn) pre r post (first_pairs Less a.txn (txns_in (pre ++ r ∷ post)) ascends) in
    let number : q.txn.0 ≡ r.txn.0 = ap (λ (t : Txn). t.0) same in
    let other : is_txn q.txn a.txn ≡ false = grind (arith, less, number) in
    let later : nat_lt q.txn.0 a.txn.0 ≡ false = grind (arith, less, number) in
    rw (other, later) (ap (λ qs. a ∷ qs) (put_mid q pre r post same (rest_pairs Less a.txn (txns_in (pre ++ r ∷ post)) ascends)))

txns_mid : (q : Running) (pre : List Running) (r : Running) (post : List Running) → q.txn ≡ r.txn → txns_in (pre ++ q ∷ post) ≡ txns_in (pre ++ r ∷ post)
txns_mid q [] r post same = ap (λ t. t ∷ txns_in post) same
txns_mid q (a ∷ pre) r post same = ap (λ ts. a.txn ∷ ts) (txns_mid q pre r post same)

-- where each step changes its own program alone, all of them change each
abbrev pub Steps : (Turn SiteState → Running → Turn SiteState) → (Running → Running) → (Running → List Out) → SiteState → Type 0
Steps step f g state = (pre post : List Running) (r : Running) (outs : List Out) → Ascends (txns_in (pre ++ r ∷ post)) →
    step (at state (pre ++ r ∷ post) outs) r ≡ at state (pre ++ f r ∷ post) (outs ++ g r)

pub fold_each : (step : Turn SiteState → Running → Turn SiteState) (f : Running → Running) (g : Running → List Out) (state : SiteState) → ((r : Running) → (f r).txn ≡ r.txn) → Steps step f g state →
    (pre rest : List Running) (outs : List Out) → Ascends (txns_in (pre ++ rest)) → fold step (at state (pre ++ rest) outs) rest ≡ at state (pre ++ map f rest) (outs ++ flat_map g rest)
fold_each step f g state number one pre [] outs ascends = ap (at state (pre ++ [])) (sym (append-nil outs))
fold_each step f g state number one pre (r ∷ rest) outs ascends =
    let more = pre ++ f r ∷ [] in
    let again : more ++ rest ≡ pre ++ f r ∷ rest = append_assoc pre (f r ∷ []) rest in
    let still : Ascends (txns_in (more ++ rest)) = subst (λ ts. Ascends ts) (sym (ap txns_in again ∙ txns_mid (f r) pre r rest (number r))) ascends in
    ap (λ z. fold step z rest) (one pre rest r outs ascends)
    ∙ ap (λ qs. fold step (at state qs (outs ++ g r)) rest) (sym again)
    ∙ fold_each step f g state number one more rest (outs ++ g r) still
    ∙ ap (λ qs. at state qs ((outs ++ g r) ++ flat_map g rest)) (append_assoc pre (f r ∷ []) (map f rest))
    ∙ ap (at state (pre ++ f r ∷ map f rest)) (append_assoc outs (g r) (flat_map g rest))

-- a site is down
abbrev lost_by : Site → Running → Phase → Running
lost_by s r (asking k x (Some q)) = if is_site s q then record r { asks = r.asks + 1; phase = asking (r.asks + 1) x None } else r
lost_by s r (asking k x None) = r
lost_by s r (preparing reads writes sites) = record r { phase = without_vote s r.phase }
lost_by s r sent = r

abbrev outs_by : Site → Running → Phase → List Out
outs_by s r (asking k x (Some q)) = if is_site s q then (1, 0, letters.ReadAsk r.txn (r.asks + 1) x) ∷ [] else []
outs_by s r (asking k x None) = []
outs_by s r (preparing reads writes sites) = []
outs_by s r sent = []

lost_number_case : (r q : Running) (c : Bool) → q.txn ≡ r.txn → (if c then q else r).txn ≡ r.txn
lost_number_case r q true same = same
lost_number_case r q false same = refl

lost_number : (s : Site) (r : Running) (ph : Phase) → (lost_by s r ph).txn ≡ r.txn
lost_number s r (asking k x (Some q)) = lost_number_case r (record r { asks = r.asks + 1; phase = asking (r.asks + 1) x None }) (is_site s q) refl
lost_number s r (asking k x None) = refl
lost_number s r (preparing reads writes sites) = refl
lost_number s r sent = refl

nothing_more : (state : SiteState) (rs : List Running) (outs : List Out) → at state rs outs ≡ at state rs (outs ++ [])
nothing_more state rs outs = ap (at state rs) (sym (append-nil outs))

lose_case : (state : SiteState) (pre post : List Running) (r : Running) (x : Item) (outs : List Out) (c : Bool) → Ascends (txns_in (pre ++ r ∷ post)) →
    (let T = at state (pre ++ r ∷ post) outs in
    if c then steps.ask T r x else T)
    ≡ at state (pre ++ (if c then record r { asks = r.asks + 1; phase = asking (r.asks + 1) x None } else r) ∷ post) (outs ++ (if c then (1, 0, letters.ReadAsk r.txn (r.asks + 1) x) ∷ [] else []))
lose_case state pre post r x outs true ascends =
    ap (λ qs. at state qs (outs ++ (1, 0, letters.ReadAsk r.txn (r.asks + 1) x) ∷ [])) (put_mid (record r { asks = r.asks + 1; phase = asking (r.asks + 1) x None }) pre r post refl ascends)
lose_case state pre post r x outs false ascends = nothing_more state (pre ++ r ∷ post) outs

lose_step : (s : Site) (state : SiteState) (pre post : List Running) (r : Running) (ph : Phase) (outs : List Out) → Ascends (txns_in (pre ++ r ∷ post)) →
    lose s (at state (pre ++ r ∷ post) outs) r ph ≡ at state (pre ++ lost_by s r ph ∷ post) (outs ++ outs_by s r ph)
lose_step s state pre post r (asking k x (Some q)) outs ascends = lose_case state pre post r x outs (is_site s q) ascends
lose_step s state pre post r (asking k x None) outs ascends = nothing_more state (pre ++ r ∷ post) outs
lose_step s state pre post r (preparing reads writes sites) outs ascends =
    ap (λ qs. at state qs outs) (put_mid (record r { phase = without_vote s r.phase }) pre r post refl ascends) ∙ nothing_more state (pre ++ record r { phase = without_vote s r.phase } ∷ post) outs
lose_step s state pre post r sent outs ascends = nothing_more state (pre ++ r ∷ post) outs

-- the same for the driver's programs
abbrev task : Txn → List (Item × ℤ) → ℕ → Doing → Task
task u held n d = record { txn = u; answers = held; asks = n; doing = d }

lost_asking : (bs cs : List Ballot) (u : Txn) (held : List (Item × ℤ)) (n k : ℕ) (x : Item) (q : Site) (c : Bool) →
    (let r = running_of bs (task u held n (Asking k x (Some q))) in
    if c then record r { asks = n + 1; phase = asking (n + 1) x None } else r)
    ≡ running_of cs (let r = task u held n (Asking k x (Some q)) in option_map_or (λ y. drive.asking r y) (if c then Some x else None) r)
lost_asking bs cs u held n k x q true = refl
lost_asking bs cs u held n k x q false = refl

lost_voting : (s : Site) (u : Txn) (held : List (Item × ℤ)) (n : ℕ) (reads writes : List (Item × ℤ)) (o : Option Ballot) →
    (let ph = option_map_or (λ (b : Ballot). preparing reads writes b.awaited) o sent in
    let r : Running = record { txn = u; answers = held; asks = n; phase = ph } in lost_by s r ph)
    ≡ record { txn = u; answers = held; asks = n; phase = option_map_or (λ (b : Ballot). preparing reads writes b.awaited) (option_map (awaiting (without s)) o) sent }
lost_voting s u held n reads writes None = refl
lost_voting s u held n reads writes (Some b) = refl

lost_at : (s : Site) (bs : List Ballot) (u : Txn) (held : List (Item × ℤ)) (n : ℕ) (d : Doing) →
    lost_by s (running_of bs (task u held n d)) (phase_of bs u d) ≡ running_of (map (awaiting (without s)) bs) (lost s (task u held n d))
lost_at s bs u held n (Asking k x (Some q)) = lost_asking bs (map (awaiting (without s)) bs) u held n k x q (is_site s q)
lost_at s bs u held n (Asking k x None) = refl
lost_at s bs u held n (Done reads writes) =
    lost_voting s u held n reads writes (find (is_of u) bs)
    ∙ ap (λ (o : Option Ballot). let r : Running = record { txn = u; answers = held; asks = n; phase = option_map_or (λ (b : Ballot). preparing reads writes b.awaited) o sent } in r) (sym (all_changed u (without s) bs))
lost_at s bs u held n Over = refl

lost_all : (s : Site) (bs : List Ballot) (rs : List Task) → map (λ (r : Running). lost_by s r r.phase) (map (running_of bs) rs) ≡ map (running_of (map (awaiting (without s)) bs)) (map (lost s) rs)
lost_all s bs [] = refl
lost_all s bs (r ∷ rs) =
    ap (λ q. q ∷ map (λ (z : Running). lost_by s z z.phase) (map (running_of bs) rs)) (lost_at s bs r.txn r.answers r.asks r.doing)
    ∙ ap (λ qs. running_of (map (awaiting (without s)) bs) (lost s r) ∷ qs) (lost_all s bs rs)

outs_asking : (u : Txn) (held : List (Item × ℤ)) (n k : ℕ) (x : Item) (q : Option Site) (c : Bool) →
    (let none : List Out = [] in if c then (1, 0, letters.ReadAsk u (n + 1) x) ∷ [] else none)
    ≡ option_map_or (λ y. drive.ask_out (task u held n (Asking k x q)) y ∷ []) (if c then Some x else None) []
outs_asking u held n k x q true = refl
outs_asking u held n k x q false = refl

outs_voting : (s : Site) (r : Running) (reads writes : List (Item × ℤ)) (o : Option Ballot) → outs_by s r (option_map_or (λ (b : Ballot). preparing reads writes b.awaited) o sent) ≡ []
outs_voting s r reads writes None = refl
outs_voting s r reads writes (Some b) = refl

outs_at : (s : Site) (bs : List Ballot) (u : Txn) (held : List (Item × ℤ)) (n : ℕ) (d : Doing) → outs_by s (running_of bs (task u held n d)) (phase_of bs u d) ≡ lost_outs s (task u held n d)
outs_at s bs u held n (Asking k x (Some q)) = outs_asking u held n k x (Some q) (is_site s q)
outs_at s bs u held n (Asking k x None) = refl
outs_at s bs u held n (Done reads writes) = outs_voting s (running_of bs (task u held n (Done reads writes))) reads writes (find (is_of u) bs)
outs_at s bs u held n Over = refl

outs_all : (s : Site) (bs : List Ballot) (rs : List Task) → flat_map (λ (r : Running). outs_by s r r.phase) (map (running_of bs) rs) ≡ flat_map (lost_outs s) rs
outs_all s bs [] = refl
outs_all s bs (r ∷ rs) =
    ap (λ os. os ++ flat_map (λ (z : Running). outs_by s z z.phase) (map (running_of bs) rs)) (outs_at s bs r.txn r.answers r.asks r.doing) ∙ ap (λ os. lost_outs s r ++ os) (outs_all s bs rs)

pub down : (p : Parts) (outs : List Out) (s : Site) → Ascends (txns_of p.driver.running) →
    (let T = drive.lose s (drive.turn p.driver outs) in
    turn (record p { vector = with_session p.vector s 0; driver = T.state; ballots = votes.change_all (without s) p.ballots }) T.outs) ≡ down_row (turn p outs) s
down p outs s ascends =
    let bs = p.ballots.ballots in
    let rs = p.driver.running in
    let state : SiteState = record (state_of p) { vector = with_session p.vector s 0 } in
    let f : Running → Running = λ r. lost_by s r r.phase in
    let g : Running → List Out = λ r. outs_by s r r.phase in
    let still : Ascends (txns_in (map (running_of bs) rs)) = subst (λ ts. Ascends ts) (sym (txns_same bs rs)) ascends in
    sym (
    fold_each (λ now r. lose s now r r.phase) f g state (λ r. lost_number s r r.phase) (λ pre post r os h. lose_step s state pre post r r.phase os h) [] (map (running_of bs) rs) outs still
    ∙ ap (λ qs. at state qs (outs ++ flat_map g (map (running_of bs) rs))) (lost_all s bs rs)
    ∙ ap (λ os. at state (map (running_of (map (awaiting (without s)) bs)) (map (lost s) rs)) (outs ++ os)) (outs_all s bs rs)
    )

-- a transaction asks to commit where it is due
commits_none : (p : Parts) (outs : List Out) (r : Task) (reads writes : List (Item × ℤ)) → find (is_of r.txn) p.ballots.ballots ≡ None →
    committing p outs r.txn (is_open p.ballots r.txn && length (awaited p.ballots r.txn) == 0) ≡ ask_commit (turn p outs) (running_of p.ballots.ballots r) (option_map_or (λ (b : Ballot). preparing reads writes b.awaited) (find (is_of r.txn) p.ballots.ballots) sent)
commits_none p outs r reads writes none =
    ap (λ b. committing p outs r.txn (b && length (awaited p.ballots r.txn) == 0)) (open_none r.txn p.ballots.ballots none)
    ∙ sym (ap (λ (o : Option Ballot). ask_commit (turn p outs) (running_of p.ballots.ballots r) (option_map_or (λ (b : Ballot). preparing reads writes b.awaited) o sent)) none)

closed_phase : (u : Txn) (bs : List Ballot) (reads writes : List (Item × ℤ)) → phase_of (filter (λ b. not (is_of u b)) bs) u (Done reads writes) ≡ sent
closed_phase u bs reads writes = ap (λ (o : Option Ballot). option_map_or (λ (b : Ballot). preparing reads writes b.awaited) o sent) (own_closed u bs)

commits_sites : (p : Parts) (outs : List Out) (u : Txn) (held : List (Item × ℤ)) (n : ℕ) (reads writes : List (Item × ℤ)) (sites : List Site) → Ascends (txns_of p.driver.running) →
    task_of p.driver.running u ≡ Some (task u held n (Done reads writes)) →
    committing p outs u (length sites == 0) ≡ ask_commit (turn p outs) (running_of p.ballots.ballots (task u held n (Done reads writes))) (preparing reads writes sites)
commits_sites p outs u held n reads writes (s ∷ ss) ascends found = let some : (suc (length ss) == 0) ≡ false = grind arith in ap (committing p outs u) some
commits_sites p outs u held n reads writes [] ascends found =
    let r = task u held n (Done reads writes) in
    let rs = p.driver.running in
    let bs = p.ballots.ballots in
    let cs = filter (λ b. not (is_of u b)) bs in
    let told : List (Item × ℤ) → List (Item × ℤ) → List Out = λ a b. outs ++ (1, 0, letters.CommitAsk u (record { reads = a; writes = b; under = p.vector })) ∷ [] in
    ap (λ a. turn (record p { ballots = close u p.ballots }) (told a (writes_of rs u))) (ap (λ (o : Option Task). option_map_or (λ (q : Task). reads_in q.doing) o []) found)
    ∙ ap (λ b. turn (record p { ballots = close u p.ballots }) (told reads b)) (ap (λ (o : Option Task). option_map_or (λ (q : Task). writes_in q.doing) o []) found)
    ∙ ballot_turn (state_of p) (told reads writes) bs cs r rs found (same_closed u bs) ascends
    ∙ ap (λ z. with_running (turn p (told reads writes)) (record { txn = u; answers = held; asks = n; phase = z })) (closed_phase u bs reads writes)

commits_done : (p : Parts) (outs : List Out) (u : Txn) (held : List (Item × ℤ)) (n : ℕ) (reads writes : List (Item × ℤ)) (o : Option Ballot) → Ascends (txns_of p.driver.running) →
    task_of p.driver.running u ≡ Some (task u held n (Done reads writes)) → find (is_of u) p.ballots.ballots ≡ o →
    committing p outs u (is_open p.ballots u && length (awaited p.ballots u) == 0) ≡ ask_commit (turn p outs) (running_of p.ballots.ballots (task u held n (Done reads writes))) (phase_of p.ballots.ballots u (Done reads writes))
commits_done p outs u held n reads writes None ascends found is = commits_none p outs (task u held n (Done reads writes)) reads writes is
commits_done p outs u held n reads writes (Some b) ascends found is =
    ap (λ c. committing p outs u (c && length (awaited p.ballots u) == 0)) (open_some u b p.ballots.ballots is)
    ∙ ap (λ (o : Option Ballot). committing p outs u (length (option_map_or (λ (z : Ballot). z.awaited) o []) == 0)) is
    ∙ commits_sites p outs u held n reads writes b.awaited ascends found
    ∙ sym (ap (λ (o : Option Ballot). ask_commit (turn p outs) (running_of p.ballots.ballots (task u held n (Done reads writes))) (option_map_or (λ (z : Ballot). preparing reads writes z.awaited) o sent)) is)

commits_at : (p : Parts) (outs : List Out) (u : Txn) (held : List (Item × ℤ)) (n : ℕ) (d : Doing) → Ascends (txns_of p.driver.running) → task_of p.driver.running u ≡ Some (task u held n d) →
    committing p outs u (is_done d && is_open p.ballots u && length (awaited p.ballots u) == 0) ≡ ask_commit (turn p outs) (running_of p.ballots.ballots (task u held n d)) (phase_of p.ballots.ballots u d)
commits_at p outs u held n (Asking k x q) ascends found = refl
commits_at p outs u held n (Done reads writes) ascends found = commits_done p outs u held n reads writes (find (is_of u) p.ballots.ballots) ascends found refl
commits_at p outs u held n Over ascends found = refl

pub commits : (p : Parts) (outs : List Out) (r : Task) → Ascends (txns_of p.driver.running) → task_of p.driver.running r.txn ≡ Some r →
    committing p outs r.txn (is_due p r.txn) ≡ ask_commit (turn p outs) (running_of p.ballots.ballots r) (phase_of p.ballots.ballots r.txn r.doing)
commits p outs r ascends found =
    ap (λ b. committing p outs r.txn (b && is_open p.ballots r.txn && length (awaited p.ballots r.txn) == 0)) (over_found r.txn r p.driver.running ascends found)
    ∙ commits_at p outs r.txn r.answers r.asks r.doing ascends found

-- a site that came up joins a preparation, where that concerns it
abbrev joining_by : Workload → Parts → List Out → Txn → Site → List (Item × ℤ) → Bool → Turn SiteState
joining_by w p outs t s writes true = turn (record p { ballots = votes.change t (with_vote s) p.ballots }) (outs ++ prepare_out w p.vector t writes s ∷ [])
joining_by w p outs t s writes false = turn p outs

joining_same : (w : Workload) (p : Parts) (outs : List Out) (t : Txn) (s : Site) (c : Bool) → joining w p outs t s c ≡ joining_by w p outs t s (writes_of p.driver.running t) c
joining_same w p outs t s true = refl
joining_same w p outs t s false = refl

joined_phase : (u : Txn) (s : Site) (b : Ballot) (bs : List Ballot) (reads writes : List (Item × ℤ)) → find (is_of u) bs ≡ Some b →
    phase_of (map (changed u (with_vote s)) bs) u (Done reads writes) ≡ preparing reads writes (with_vote s b.awaited)
joined_phase u s b bs reads writes is =
    ap (λ (o : Option Ballot). option_map_or (λ (z : Ballot). preparing reads writes z.awaited) o sent) (own_changed u (with_vote s) bs ∙ ap (λ (o : Option Ballot). option_map (awaiting (with_vote s)) o) is)

joins_some : (w : Workload) (p : Parts) (outs : List Out) (s : Site) (u : Txn) (held : List (Item × ℤ)) (n : ℕ) (reads writes : List (Item × ℤ)) (b : Ballot) (c : Bool) → Ascends (txns_of p.driver.running) →
    task_of p.driver.running u ≡ Some (task u held n (Done reads writes)) → find (is_of u) p.ballots.ballots ≡ Some b → holds_some w writes s ≡ c →
    joining_by w p outs u s writes c ≡ join w s (turn p outs) (running_of p.ballots.ballots (task u held n (Done reads writes))) (preparing reads writes b.awaited)
joins_some w p outs s u held n reads writes b true ascends found is here =
    let bs = p.ballots.ballots in
    let more = outs ++ prepare_out w p.vector u writes s ∷ [] in
    rw here (ballot_turn (state_of p) more bs (map (changed u (with_vote s)) bs) (task u held n (Done reads writes)) p.driver.running found (same_changed u (with_vote s) bs) ascends
    ∙ ap (λ z. with_running (turn p more) (record { txn = u; answers = held; asks = n; phase = z })) (joined_phase u s b bs reads writes is))
joins_some w p outs s u held n reads writes b false ascends found is here = rw here refl

joins_done : (w : Workload) (p : Parts) (outs : List Out) (s : Site) (u : Txn) (held : List (Item × ℤ)) (n : ℕ) (reads writes : List (Item × ℤ)) (o : Option Ballot) → Ascends (txns_of p.driver.running) →
    task_of p.driver.running u ≡ Some (task u held n (Done reads writes)) → find (is_of u) p.ballots.ballots ≡ o →
    joining w p outs u s (is_open p.ballots u && holds_some w (writes_of p.driver.running u) s) ≡ join w s (turn p outs) (running_of p.ballots.ballots (task u held n (Done reads writes))) (phase_of p.ballots.ballots u (Done reads writes))
joins_done w p outs s u held n reads writes None ascends found is =
    ap (λ b. joining w p outs u s (b && holds_some w (writes_of p.driver.running u) s)) (open_none u p.ballots.ballots is)
    ∙ sym (ap (λ (o : Option Ballot). join w s (turn p outs) (running_of p.ballots.ballots (task u held n (Done reads writes))) (option_map_or (λ (z : Ballot). preparing reads writes z.awaited) o sent)) is)
joins_done w p outs s u held n reads writes (Some b) ascends found is =
    ap (λ c. joining w p outs u s (c && holds_some w (writes_of p.driver.running u) s)) (open_some u b p.ballots.ballots is)
    ∙ joining_same w p outs u s (holds_some w (writes_of p.driver.running u) s)
    ∙ ap (λ ps. joining_by w p outs u s ps (holds_some w ps s)) (ap (λ (o : Option Task). option_map_or (λ (q : Task). writes_in q.doing) o []) found)
    ∙ joins_some w p outs s u held n reads writes b (holds_some w writes s) ascends found is refl
    ∙ sym (ap (λ (o : Option Ballot). join w s (turn p outs) (running_of p.ballots.ballots (task u held n (Done reads writes))) (option_map_or (λ (z : Ballot). preparing reads writes z.awaited) o sent)) is)

joins_at : (w : Workload) (p : Parts) (outs : List Out) (s : Site) (u : Txn) (held : List (Item × ℤ)) (n : ℕ) (d : Doing) → Ascends (txns_of p.driver.running) → task_of p.driver.running u ≡ Some (task u held n d) →
    joining w p outs u s (is_done d && is_open p.ballots u && holds_some w (writes_of p.driver.running u) s) ≡ join w s (turn p outs) (running_of p.ballots.ballots (task u held n d)) (phase_of p.ballots.ballots u d)
joins_at w p outs s u held n (Asking k x q) ascends found = refl
joins_at w p outs s u held n (Done reads writes) ascends found = joins_done w p outs s u held n reads writes (find (is_of u) p.ballots.ballots) ascends found refl
joins_at w p outs s u held n Over ascends found = refl

pub joins : (w : Workload) (p : Parts) (outs : List Out) (s : Site) (r : Task) → Ascends (txns_of p.driver.running) → task_of p.driver.running r.txn ≡ Some r →
    joining w p outs r.txn s (is_joined w p r.txn s) ≡ join w s (turn p outs) (running_of p.ballots.ballots r) (phase_of p.ballots.ballots r.txn r.doing)
joins w p outs s r ascends found =
    ap (λ b. joining w p outs r.txn s (b && is_open p.ballots r.txn && holds_some w (writes_of p.driver.running r.txn) s)) (over_found r.txn r p.driver.running ascends found)
    ∙ joins_at w p outs s r.txn r.answers r.asks r.doing ascends found

-- one program after the other
fold_one : (F : Turn SiteState → Running → Turn SiteState) (bs : List Ballot) (rs : List Task) (k : ℕ) (r : Task) (T : Turn SiteState) → slice_get rs k ≡ Some r →
    fold F T (map (running_of bs) (take (k + 1) rs)) ≡ F (fold F T (map (running_of bs) (take k rs))) (running_of bs r)
fold_one F bs [] k r T is = absurd (cc is)
fold_one F bs (p ∷ ps) zero r T is = let here : p ≡ r = cc is in ap (λ z. F T (running_of bs z)) here
fold_one F bs (p ∷ ps) (suc k) r T is = let e : suc k + 1 ≡ suc (k + 1) = omega arith in rw e (fold_one F bs ps k r (F T (running_of bs p)) is)

found_index : (rs : List Task) (k : ℕ) (r : Task) → Ascends (txns_of rs) → slice_get rs k ≡ Some r → task_of rs r.txn ≡ Some r
found_index [] k r ascends is = absurd (cc is)
found_index (p ∷ ps) zero r ascends is = let here : p ≡ r = cc is in let e : (r.txn.0 == r.txn.0) ≡ true = grind arith in subst (λ (z : Task). task_of (z ∷ ps) r.txn ≡ Some r) (sym here) (rw e refl)
found_index (p ∷ ps) (suc k) r ascends is =
    let less : p.txn.0 < r.txn.0 = later_at p.txn ps k r (first_pairs Less p.txn (txns_of ps) ascends) is in
    let other : is_txn r.txn p.txn ≡ false = grind (arith, less) in
    rw other (found_index ps k r (rest_pairs Less p.txn (txns_of ps) ascends) is)
  where
    later_at : (t : Txn) (qs : List Task) (k : ℕ) (q : Task) → All (Less t) (txns_of qs) → slice_get qs k ≡ Some q → t.0 < q.txn.0
    later_at t [] k q all is = absurd (cc is)
    later_at t (p ∷ ps) zero q all is = let here : p ≡ q = cc is in subst (λ (z : Task). t.0 < z.txn.0) here (All-head (Less t) p.txn (txns_of ps) all)
    later_at t (p ∷ ps) (suc k) q all is = later_at t ps k q (All-tail (Less t) p.txn (txns_of ps) all) is

-- the later programs are as they were
abbrev pub Later : List Ballot → List Ballot → List Task → ℕ → Type 0
Later bs cs rs k = map (running_of bs) (drop k rs) ≡ map (running_of cs) (drop k rs)

this_same : (bs cs : List Ballot) (rs : List Task) (k : ℕ) (r : Task) → slice_get rs k ≡ Some r → Later bs cs rs k → running_of bs r ≡ running_of cs r
this_same bs cs [] k r is later = absurd (cc is)
this_same bs cs (p ∷ ps) zero r is later = let here : p ≡ r = cc is in let e : running_of bs p ≡ running_of cs p = cc later in subst (λ (z : Task). running_of bs z ≡ running_of cs z) here e
this_same bs cs (p ∷ ps) (suc k) r is later = this_same bs cs ps k r is later

rest_later : (bs cs : List Ballot) (rs : List Task) (k : ℕ) (r : Task) → slice_get rs k ≡ Some r → Later bs cs rs k → Later bs cs rs (k + 1)
rest_later bs cs [] k r is later = absurd (cc is)
rest_later bs cs (p ∷ ps) zero r is later = let e : map (running_of bs) ps ≡ map (running_of cs) ps = cc later in e
rest_later bs cs (p ∷ ps) (suc k) r is later = let e : suc k + 1 ≡ suc (k + 1) = omega arith in rw e (rest_later bs cs ps k r is later)

after_same : (bs cs : List Ballot) (rs : List Task) (k : ℕ) (r : Task) → slice_get rs k ≡ Some r → Same r.txn bs cs → Ascends (txns_of rs) → Later bs cs rs (k + 1)
after_same bs cs [] k r is same ascends = absurd (cc is)
after_same bs cs (p ∷ ps) zero r is same ascends =
    let here : p ≡ r = cc is in
    rest_same r.txn ps bs cs same (subst (λ (z : Task). All (Less z.txn) (txns_of ps)) here (first_pairs Less p.txn (txns_of ps) ascends))
after_same bs cs (p ∷ ps) (suc k) r is same ascends = let e : suc k + 1 ≡ suc (k + 1) = omega arith in rw e (after_same bs cs ps k r is same (rest_pairs Less p.txn (txns_of ps) ascends))

-- what a loop over the programs has come to: those so far have had their step, and the others are about what they were
pub record IsAt (F : Turn SiteState → Running → Turn SiteState) (first now : Parts) (before outs : List Out) (k : ℕ) : Type 0 where
  pub turned : turn now outs ≡ fold F (turn first before) (map (running_of first.ballots.ballots) (take k first.driver.running))
  pub driver : now.driver ≡ first.driver
  pub later : Later now.ballots.ballots first.ballots.ballots first.driver.running k

pub at_start : (F : Turn SiteState → Running → Turn SiteState) (p : Parts) (outs : List Out) → IsAt F p p outs outs 0
at_start F p outs = record { turned = refl; driver = refl; later = refl }

step_same : (F : Turn SiteState → Running → Turn SiteState) (first now next : Parts) (before outs more : List Out) (k : ℕ) (r : Task) → IsAt F first now before outs k → slice_get first.driver.running k ≡ Some r →
    Ascends (txns_of first.driver.running) → next.driver ≡ now.driver → Same r.txn now.ballots.ballots next.ballots.ballots → turn next more ≡ F (turn now outs) (running_of now.ballots.ballots r) →
    IsAt F first next before more (k + 1)
step_same F first now next before outs more k r at_k is ascends driver same turned =
    let rs = first.driver.running in
    let bs = now.ballots.ballots in
    let cs = next.ballots.ballots in
    let zs = first.ballots.ballots in
    record {
      turned = turned ∙ ap (F (turn now outs)) (this_same bs zs rs k r is at_k.later) ∙ ap (λ T. F T (running_of zs r)) at_k.turned ∙ sym (fold_one F zs rs k r (turn first before) is);
      driver = driver ∙ at_k.driver;
      later = sym (after_same bs cs rs k r is same ascends) ∙ rest_later bs zs rs k r is at_k.later;
    }

-- the program of a transaction at a place
task_at : (rs : List Task) (k : ℕ) (t : Txn) → slice_get (txns_of rs) k ≡ Some t → (r : Task) × (slice_get rs k ≡ Some r) × (r.txn ≡ t)
task_at [] k t is = absurd (cc is)
task_at (p ∷ ps) zero t is = (p, refl, (let e : p.txn ≡ t = cc is in e))
task_at (p ∷ ps) (suc k) t is = task_at ps k t is

pub commit_step : (first now next : Parts) (before outs more : List Out) (k : ℕ) (t : Txn) → IsAt (λ z r. ask_commit z r r.phase) first now before outs k → slice_get (txns_of first.driver.running) k ≡ Some t →
    Ascends (txns_of first.driver.running) → next.driver ≡ now.driver → Same t now.ballots.ballots next.ballots.ballots → turn next more ≡ committing now outs t (is_due now t) →
    IsAt (λ z r. ask_commit z r r.phase) first next before more (k + 1)
commit_step first now next before outs more k t at_k is ascends driver same turned =
    let (r, place, number) = task_at first.driver.running k t is in
    let running : now.driver.running ≡ first.driver.running = ap (λ (d : Drive). d.running) at_k.driver in
    let order : Ascends (txns_of now.driver.running) = subst (λ (rs : List Task). Ascends (txns_of rs)) (sym running) ascends in
    let found : task_of now.driver.running r.txn ≡ Some r = ap (λ (rs : List Task). task_of rs r.txn) running ∙ found_index first.driver.running k r ascends place in
    step_same (λ z q. ask_commit z q q.phase) first now next before outs more k r at_k place ascends driver
    (subst (λ (u : Txn). Same u now.ballots.ballots next.ballots.ballots) (sym number) same)
    (turned ∙ ap (λ (u : Txn). committing now outs u (is_due now u)) (sym number) ∙ commits now outs r order found)

pub join_step : (w : Workload) (s : Site) (first now next : Parts) (before outs more : List Out) (k : ℕ) (t : Txn) → IsAt (λ z r. join w s z r r.phase) first now before outs k → slice_get (txns_of first.driver.running) k ≡ Some t →
    Ascends (txns_of first.driver.running) → next.driver ≡ now.driver → Same t now.ballots.ballots next.ballots.ballots → turn next more ≡ joining w now outs t s (is_joined w now t s) →
    IsAt (λ z r. join w s z r r.phase) first next before more (k + 1)
join_step w s first now next before outs more k t at_k is ascends driver same turned =
    let (r, place, number) = task_at first.driver.running k t is in
    let running : now.driver.running ≡ first.driver.running = ap (λ (d : Drive). d.running) at_k.driver in
    let order : Ascends (txns_of now.driver.running) = subst (λ (rs : List Task). Ascends (txns_of rs)) (sym running) ascends in
    let found : task_of now.driver.running r.txn ≡ Some r = ap (λ (rs : List Task). task_of rs r.txn) running ∙ found_index first.driver.running k r ascends place in
    step_same (λ z q. join w s z q q.phase) first now next before outs more k r at_k place ascends driver
    (subst (λ (u : Txn). Same u now.ballots.ballots next.ballots.ballots) (sym number) same)
    (turned ∙ ap (λ (u : Txn). joining w now outs u s (is_joined w now u s)) (sym number) ∙ joins w now outs s r order found)

take_all : {X : Type 0} (xs : List X) (k : ℕ) → length xs ≤ k → take k xs ≡ xs
take_all [] zero all = refl
take_all [] (suc k) all = refl
take_all (x ∷ xs) zero all = absurd (omega (arith, all))
take_all (x ∷ xs) (suc k) all = ap (λ ys. x ∷ ys) (take_all xs k (omega (arith, all)))

pub at_end : (F : Turn SiteState → Running → Turn SiteState) (first now : Parts) (before outs : List Out) (k : ℕ) → IsAt F first now before outs k → length first.driver.running ≤ k →
    turn now outs ≡ fold F (turn first before) (map (running_of first.ballots.ballots) first.driver.running)
at_end F first now before outs k at_k all = at_k.turned ∙ ap (λ rs. fold F (turn first before) (map (running_of first.ballots.ballots) rs)) (take_all first.driver.running k all)
