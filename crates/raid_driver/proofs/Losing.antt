-- A site's step at a stop of another, said by what the driver does and by the votes that are no longer awaited.
use Rattle.std.proofs.Common.{◌≡◌, ℕ, ℤ, ◌+◌, ◌<◌, nat_lt, Bool, true, false, not, List, [], ◌∷◌, ◌++◌, map, filter, fold, Option, Some, None, append-nil, append_assoc, arith, ap, sym, ◌∙◌, refl}
use Rattle.std.specs.Prelude.{option_map, flat_map}
use Rattle.std.specs.List.{All}
use Rattle.std.proofs.lemmas.List.Elements.{All-cons, All-head, All-tail, All-append}
use Rattle.raid_base.specs.declared.names.Txn.{Txn}
use Rattle.raid_base.specs.declared.names.Item.{Item}
use Rattle.raid_base.specs.declared.names.Site.{Site}
use Rattle.raid_base.specs.Names.{is_txn, is_site}
use Rattle.raid_message.specs.declared.letter.Message.TheVariants as letters
use Rattle.raid_steps.specs.State.{Out, Turn, with_state, sending, Running, SiteState}
use Rattle.raid_steps.specs.Programs as steps
use Rattle.raid_driver.specs.declared.task.Task.{Task}
use Rattle.raid_driver.specs.declared.task.Doing.{Doing}
use Rattle.raid_driver.specs.declared.task.Doing.TheVariants.{Asking, Done, Over}
use Rattle.raid_driver.specs.Drive.{Ascends, txns_of, lost, lost_outs}
use Rattle.raid_driver.specs.Shown.{Votes, phase_of, shown}
use Rattle.raid_driver.proofs.Places.{first_pairs, rest_pairs}
use Rattle.raid_driver.proofs.Kept.{lost_txn}

-- no vote of the site is awaited any more
abbrev pub without : Site → Option (List Site) → Option (List Site)
without s vs = option_map (filter (λ r. not (is_site s r))) vs

abbrev pub votes_without : Site → Votes → Votes
votes_without s votes t = without s (votes t)

-- the turn in which these run
abbrev pub with_runs : Turn SiteState → List Running → Turn SiteState
with_runs now rs = with_state now (record (now.state) { running = rs })

-- a program with these votes
abbrev pub shown_with : Option (List Site) → Task → Running
shown_with vs r = record { txn = r.txn; answers = r.answers; asks = r.asks; phase = phase_of vs r.doing }

-- a program put behind smaller ones
abbrev pub Below : Txn → List Running → Type 0
Below t xs = All (λ (x : Running). x.txn.0 < t.0) xs

put_mid : (xs : List Running) (r y : Running) (ys : List Running) → Below r.txn xs → y.txn ≡ r.txn → steps.put_running r (xs ++ y ∷ ys) ≡ xs ++ r ∷ ys
put_mid [] r y ys below same =
    let here : is_txn r.txn y.txn ≡ true = grind (arith, ap (λ (t : Txn). t.0) same) in
    rw here refl
put_mid (x ∷ xs) r y ys below same =
    let less = All-head (λ (z : Running). z.txn.0 < r.txn.0) x xs below in
    let other : is_txn r.txn x.txn ≡ false = grind (arith, less) in
    let after : nat_lt r.txn.0 x.txn.0 ≡ false = grind (arith, less) in
    let rest = put_mid xs r y ys (All-tail (λ (z : Running). z.txn.0 < r.txn.0) x xs below) same in
    rw (other, after) (ap (λ zs. x ∷ zs) rest)

unchanged : (now : Turn SiteState) (rs : List Running) → with_runs now rs ≡ sending (with_runs now rs) []
unchanged now rs = ap (λ outs. let t : Turn SiteState = record { state = record (now.state) { running = rs }; outs = outs } in t) (sym (append-nil now.outs))

-- one program loses what the site was to do for it
asking_case : (s : Site) (now : Turn SiteState) (xs ys : List Running) (t : Txn) (given : List (Item × ℤ)) (n k : ℕ) (x : Item) (p : Site) (vs : Option (List Site)) (b : Bool) → is_site s p ≡ b → Below t xs →
    (let q : Task = record { txn = t; answers = given; asks = n; doing = Asking k x (Some p) } in
    steps.lose s (with_runs now (xs ++ shown_with vs q ∷ ys)) (shown_with vs q) (phase_of vs q.doing)
    ≡ sending (with_runs now (xs ++ shown_with (without s vs) (lost s q) ∷ ys)) (lost_outs s q))
asking_case s now xs ys t given n k x p vs true same below =
    let q : Task = record { txn = t; answers = given; asks = n; doing = Asking k x (Some p) } in
    let a : Task = record { txn = t; answers = given; asks = n + 1; doing = Asking (n + 1) x None } in
    rw same (ap (λ rs. sending (with_runs now rs) ((1, 0, letters.ReadAsk t (n + 1) x) ∷ [])) (put_mid xs (shown_with vs a) (shown_with vs q) ys below refl))
asking_case s now xs ys t given n k x p vs false same below = rw same (unchanged now _)

loses_case : (s : Site) (now : Turn SiteState) (xs ys : List Running) (t : Txn) (given : List (Item × ℤ)) (n : ℕ) (d : Doing) (vs : Option (List Site)) → Below t xs →
    (let q : Task = record { txn = t; answers = given; asks = n; doing = d } in
    steps.lose s (with_runs now (xs ++ shown_with vs q ∷ ys)) (shown_with vs q) (phase_of vs d)
    ≡ sending (with_runs now (xs ++ shown_with (without s vs) (lost s q) ∷ ys)) (lost_outs s q))
loses_case s now xs ys t given n (Asking k x (Some p)) vs below = asking_case s now xs ys t given n k x p vs (is_site s p) refl below
loses_case s now xs ys t given n (Asking k x None) vs below = unchanged now _
loses_case s now xs ys t given n (Done reads writes) None below = unchanged now _
loses_case s now xs ys t given n (Done reads writes) (Some vs) below =
    let q : Task = record { txn = t; answers = given; asks = n; doing = Done reads writes } in
    ap (with_runs now) (put_mid xs (shown_with (without s (Some vs)) q) (shown_with (Some vs) q) ys below refl) ∙ unchanged now _
loses_case s now xs ys t given n Over None below = unchanged now _
loses_case s now xs ys t given n Over (Some vs) below = unchanged now _

-- the program that lost it shows the votes that are left
shows_lost : (s : Site) (votes : Votes) (q : Task) → shown_with (without s (votes q.txn)) (lost s q) ≡ shown (votes_without s votes) (lost s q)
shows_lost s votes q = ap (λ t. shown_with (without s (votes t)) (lost s q)) (sym (lost_txn s q))

loses_one : (s : Site) (votes : Votes) (now : Turn SiteState) (xs ys : List Running) (q : Task) → Below q.txn xs →
    steps.lose s (with_runs now (xs ++ shown votes q ∷ ys)) (shown votes q) (shown votes q).phase
    ≡ sending (with_runs now (xs ++ shown (votes_without s votes) (lost s q) ∷ ys)) (lost_outs s q)
loses_one s votes now xs ys q below =
    loses_case s now xs ys q.txn q.answers q.asks q.doing (votes q.txn) below ∙ ap (λ r. sending (with_runs now (xs ++ r ∷ ys)) (lost_outs s q)) (shows_lost s votes q)

-- all of them do, one after another
more_below : (q : Task) (r : Running) (xs : List Running) (ts : List Txn) → r.txn ≡ q.txn → All (λ t. q.txn.0 < t.0) ts → All (λ t. Below t xs) ts → All (λ t. Below t (xs ++ r ∷ [])) ts
more_below q r xs [] same larger below = λ k d within. absurd (omega (arith, within))
more_below q r xs (t ∷ ts) same larger below =
    let P : Running → Type 0 = λ z. z.txn.0 < t.0 in
    let less : r.txn.0 < t.0 = omega (arith, ap (λ (u : Txn). u.0) same, All-head (λ (u : Txn). q.txn.0 < u.0) t ts larger) in
    All-cons (λ u. Below u (xs ++ r ∷ [])) t ts
    (All-append P xs (r ∷ []) (All-head (λ u. Below u xs) t ts below) (All-cons P r [] less (λ k d within. absurd (omega (arith, within)))))
    (more_below q r xs ts same (All-tail (λ (u : Txn). q.txn.0 < u.0) t ts larger) (All-tail (λ u. Below u xs) t ts below))

sent_in_turn : (now : Turn SiteState) (rs : List Running) (one more : List Out) → sending (with_runs (sending now one) rs) more ≡ sending (with_runs now rs) (one ++ more)
sent_in_turn now rs one more = ap (λ outs. let t : Turn SiteState = record { state = record (now.state) { running = rs }; outs = outs } in t) (append_assoc now.outs one more)

loses_from : (s : Site) (votes : Votes) (now : Turn SiteState) (xs : List Running) (qs : List Task) → Ascends (txns_of qs) → All (λ t. Below t xs) (txns_of qs) →
    fold (λ z (r : Running). steps.lose s z r r.phase) (with_runs now (xs ++ map (shown votes) qs)) (map (shown votes) qs)
    ≡ sending (with_runs now (xs ++ map (shown (votes_without s votes)) (map (lost s) qs))) (flat_map (lost_outs s) qs)
loses_from s votes now xs [] ascends below = unchanged now (xs ++ [])
loses_from s votes now xs (q ∷ qs) ascends below =
    let step = λ (z : Turn SiteState) (r : Running). steps.lose s z r r.phase in
    let after = shown (votes_without s votes) in
    let r = after (lost s q) in
    let ys = map (shown votes) qs in
    let all = first_pairs (λ (a b : Txn). a.0 < b.0) q.txn (txns_of qs) ascends in
    let rest = loses_from s votes (sending now (lost_outs s q)) (xs ++ r ∷ []) qs (rest_pairs (λ (a b : Txn). a.0 < b.0) q.txn (txns_of qs) ascends)
    (more_below q r xs (txns_of qs) (lost_txn s q) all (All-tail (λ t. Below t xs) q.txn (txns_of qs) below)) in
    ap (λ z. fold step z ys) (loses_one s votes now xs ys q (All-head (λ t. Below t xs) q.txn (txns_of qs) below))
    ∙ ap (λ rs. fold step (with_runs (sending now (lost_outs s q)) rs) ys) (sym (append_assoc xs (r ∷ []) ys))
    ∙ rest
    ∙ ap (λ rs. sending (with_runs (sending now (lost_outs s q)) rs) (flat_map (lost_outs s) qs)) (append_assoc xs (r ∷ []) (map after (map (lost s) qs)))
    ∙ sent_in_turn now (xs ++ r ∷ map after (map (lost s) qs)) (lost_outs s q) (flat_map (lost_outs s) qs)

none_below : (ts : List Txn) → All (λ t. Below t []) ts
none_below [] = λ k d within. absurd (omega (arith, within))
none_below (t ∷ ts) = All-cons (λ u. Below u []) t ts (λ k d within. absurd (omega (arith, within))) (none_below ts)

pub loses : (s : Site) (votes : Votes) (now : Turn SiteState) (rs : List Task) → Ascends (txns_of rs) →
    fold (λ z (r : Running). steps.lose s z r r.phase) (with_runs now (map (shown votes) rs)) (map (shown votes) rs)
    ≡ sending (with_runs now (map (shown (votes_without s votes)) (map (lost s) rs))) (flat_map (lost_outs s) rs)
loses s votes now rs ascends = loses_from s votes now [] rs ascends (none_below (txns_of rs))
