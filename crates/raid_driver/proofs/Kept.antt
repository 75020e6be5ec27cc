-- What a driver keeps.
use Rattle.std.proofs.Common.{◌≡◌, ℕ, zero, suc, ◌+◌, ◌<◌, Bool, true, false, not, if◌then◌else◌, List, [], ◌∷◌, ◌++◌, map, filter, fold, length, take, drop, Option, Some, None, arith, ap, sym, subst, ◌∙◌, refl}
use Rattle.std.specs.Option.{option_map_or}
use Rattle.std.specs.List.{All}
use Rattle.std.proofs.lemmas.Grind.{common_steps}
use Rattle.std.proofs.lemmas.List.Elements.{All-cons, All-head, All-tail}
use Rattle.std.proofs.lemmas.List.Kept.{AllPairs-cons, AllPairs-filter}
use Rattle.raid_base.specs.declared.names.Txn.{Txn}
use Rattle.raid_base.specs.declared.names.Item.{Item}
use Rattle.raid_base.specs.declared.names.Site.{Site}
use Rattle.raid_base.specs.Names.{is_txn}
use Rattle.raid_workload.specs.Parts.{count_from}
use Rattle.raid_driver.specs.declared.task.Task.{Task}
use Rattle.raid_driver.specs.declared.task.Doing.{Doing}
use Rattle.raid_driver.specs.declared.task.Doing.TheVariants.{Asking, Done, Over}
use Rattle.raid_driver.specs.Drive.{Ascends, Keeps, txns_of, done_of, is_done, put_task, lost, awaited, asking}
use Rattle.raid_driver.proofs.Places.{first_pairs, rest_pairs, put_ascends}

abbrev Less : Txn → Txn → Type 0
Less a b = a.0 < b.0

-- those that are done ascend too
all_done_if : (P : Txn → Type 0) (b : Bool) (q : Task) (qs : List Task) → P q.txn → All P (txns_of qs) → All P (txns_of (if b then q ∷ qs else qs))
all_done_if P true q qs this all = All-cons P q.txn (txns_of qs) this all
all_done_if P false q qs this all = all

all_done : (P : Txn → Type 0) (rs : List Task) → All P (txns_of rs) → All P (done_of rs)
all_done P [] all = all
all_done P (q ∷ rs) all = all_done_if P (is_done q.doing) q (filter (λ (r : Task). is_done r.doing) rs) (All-head P q.txn (txns_of rs) all) (all_done P rs (All-tail P q.txn (txns_of rs) all))

done_if : (b : Bool) (q : Task) (qs : List Task) → All (Less q.txn) (txns_of qs) → Ascends (txns_of qs) → Ascends (txns_of (if b then q ∷ qs else qs))
done_if true q qs all ascends = AllPairs-cons Less q.txn (txns_of qs) all ascends
done_if false q qs all ascends = ascends

pub done_ascends : (rs : List Task) → Ascends (txns_of rs) → Ascends (done_of rs)
done_ascends [] ascends = ascends
done_ascends (q ∷ rs) ascends =
    done_if (is_done q.doing) q (filter (λ (r : Task). is_done r.doing) rs) (all_done (Less q.txn) rs (first_pairs Less q.txn (txns_of rs) ascends)) (done_ascends rs (rest_pairs Less q.txn (txns_of rs) ascends))

-- programs that lost a read run on, and are no more done than before
lost_cases : (r : Task) (o : Option Item) → (option_map_or (λ x. asking r x) o r).txn ≡ r.txn
lost_cases r None = refl
lost_cases r (Some x) = refl

lost_done_at : (s : Site) (r : Task) (d : Doing) → r.doing ≡ d → (b : Option Item) → awaited s d ≡ b → is_done (option_map_or (λ x. asking r x) b r).doing ≡ is_done d
lost_done_at s r (Asking k x q) is None e = ap is_done is
lost_done_at s r (Asking k x q) is (Some y) e = refl
lost_done_at s r (Done reads writes) is None e = ap is_done is
lost_done_at s r (Done reads writes) is (Some y) e = absurd (cc e)
lost_done_at s r Over is None e = ap is_done is
lost_done_at s r Over is (Some y) e = absurd (cc e)

lost_done : (s : Site) (r : Task) → is_done (lost s r).doing ≡ is_done r.doing
lost_done s r = lost_done_at s r r.doing refl (awaited s r.doing) refl

pub lost_txn : (s : Site) (r : Task) → (lost s r).txn ≡ r.txn
lost_txn s r = lost_cases r (awaited s r.doing)

pub lost_txns : (s : Site) (rs : List Task) → txns_of (map (lost s) rs) ≡ txns_of rs
lost_txns s [] = refl
lost_txns s (r ∷ rs) = ap (λ t. t ∷ txns_of (map (lost s) rs)) (lost_cases r (awaited s r.doing)) ∙ ap (λ ts. r.txn ∷ ts) (lost_txns s rs)

lost_cons : (b c : Bool) (q r : Task) (qs rs : List Task) → b ≡ c → q.txn ≡ r.txn → txns_of qs ≡ txns_of rs → txns_of (if b then q ∷ qs else qs) ≡ txns_of (if c then r ∷ rs else rs)
lost_cons true true q r qs rs both number rest = ap (λ t. t ∷ txns_of qs) number ∙ ap (λ ts. r.txn ∷ ts) rest
lost_cons true false q r qs rs both number rest = absurd (cc both)
lost_cons false true q r qs rs both number rest = absurd (cc both)
lost_cons false false q r qs rs both number rest = rest

pub lost_dones : (s : Site) (rs : List Task) → done_of (map (lost s) rs) ≡ done_of rs
lost_dones s [] = refl
lost_dones s (r ∷ rs) =
    lost_cons (is_done (lost s r).doing) (is_done r.doing) (lost s r) r (filter (λ (q : Task). is_done q.doing) (map (lost s) rs)) (filter (λ (q : Task). is_done q.doing) rs)
    (lost_done s r) (lost_cases r (awaited s r.doing)) (lost_dones s rs)

pub keeps_lost : (s : Site) (rs ts : List Task) (running prepared : List Txn) → ts ≡ map (lost s) rs → Keeps rs running prepared → Keeps ts running prepared
keeps_lost s rs ts running prepared is k =
    subst (λ (z : List Task). Keeps z running prepared) (sym is)
    (record { ascends = subst (λ (z : List Txn). Ascends z) (sym (lost_txns s rs)) k.ascends; lists = k.lists ∙ sym (lost_txns s rs); done = k.done ∙ sym (lost_dones s rs) })

-- without one that has ended
if_txns : (b : Bool) (q : Task) (qs : List Task) → txns_of (if b then q ∷ qs else qs) ≡ (if b then q.txn ∷ txns_of qs else txns_of qs)
if_txns true q qs = refl
if_txns false q qs = refl

without_txns : (t : Txn) (rs : List Task) → txns_of (filter (λ (r : Task). not (is_txn t r.txn)) rs) ≡ filter (λ u. not (is_txn t u)) (txns_of rs)
without_txns t [] = refl
without_txns t (q ∷ rs) = if_txns (not (is_txn t q.txn)) q (filter (λ (r : Task). not (is_txn t r.txn)) rs) ∙ ap (λ ts. if not (is_txn t q.txn) then q.txn ∷ ts else ts) (without_txns t rs)

two_filters : (b c : Bool) (q : Task) (f g : Task → Bool) (rs : List Task) → f q ≡ b → g q ≡ c → filter f (filter g rs) ≡ filter g (filter f rs) → filter f (if c then q ∷ filter g rs else filter g rs) ≡ filter g (if b then q ∷ filter f rs else filter f rs)
two_filters true true q f g rs this that same = rw (this, that) (ap (λ qs. q ∷ qs) same)
two_filters true false q f g rs this that same = rw that same
two_filters false true q f g rs this that same = rw this same
two_filters false false q f g rs this that same = same

filters_swap : (f g : Task → Bool) (rs : List Task) → filter f (filter g rs) ≡ filter g (filter f rs)
filters_swap f g [] = refl
filters_swap f g (q ∷ rs) = two_filters (f q) (g q) q f g rs refl refl (filters_swap f g rs)

without_done : (t : Txn) (rs : List Task) → done_of (filter (λ (r : Task). not (is_txn t r.txn)) rs) ≡ filter (λ u. not (is_txn t u)) (done_of rs)
without_done t rs = ap txns_of (filters_swap (λ (r : Task). is_done r.doing) (λ (r : Task). not (is_txn t r.txn)) rs) ∙ without_txns t (filter (λ (r : Task). is_done r.doing) rs)

pub keeps_without : (t : Txn) (rs ts : List Task) (running prepared one two : List Txn) → ts ≡ filter (λ (r : Task). not (is_txn t r.txn)) rs →
    one ≡ filter (λ u. not (is_txn t u)) running → two ≡ filter (λ u. not (is_txn t u)) prepared → Keeps rs running prepared → Keeps ts one two
keeps_without t rs ts running prepared one two is first second k =
    subst (λ (z : List Task). Keeps z one two) (sym is)
    (record {
      ascends = subst (λ (z : List Txn). Ascends z) (sym (without_txns t rs)) (AllPairs-filter Less (λ u. not (is_txn t u)) (txns_of rs) k.ascends);
      lists = first ∙ ap (filter (λ u. not (is_txn t u))) k.lists ∙ sym (without_txns t rs);
      done = second ∙ ap (filter (λ u. not (is_txn t u))) k.done ∙ sym (without_done t rs);
    })

-- with one more
pub keeps_put : (r : Task) (rs ts : List Task) (running prepared : List Txn) → ts ≡ put_task r rs → Ascends (txns_of rs) → running ≡ txns_of ts → prepared ≡ done_of ts → Keeps ts running prepared
keeps_put r rs ts running prepared is ascends first second =
    record { ascends = subst (λ (z : List Task). Ascends (txns_of z)) (sym is) (put_ascends r rs ascends); lists = first; done = second }

-- a change of as many programs, written back
pub written_back : (xs ys : List Task) (n : ℕ) → length ys ≡ length xs → n ≡ length xs → take n (ys ++ drop (length ys) xs) ≡ ys
written_back xs ys n same is = grind (arith, common_steps, same, is)

-- one round more
count_more : (a n : ℕ) → count_from a (suc n) ≡ count_from a n ++ (a + n) ∷ []
count_more a zero = ap (λ k. k ∷ []) (let e : a ≡ a + zero = omega arith in e)
count_more a (suc n) = ap (λ ks. a ∷ ks) (count_more (a + 1) n ∙ ap (λ k. count_from (a + 1) n ++ k ∷ []) (let e : a + 1 + n ≡ a + suc n = omega arith in e))

fold_more : {S : Type 0} (f : S → S) (ks : List ℕ) (k : ℕ) (s : S) → fold (λ z j. f z) s (ks ++ k ∷ []) ≡ f (fold (λ z j. f z) s ks)
fold_more f [] k s = refl
fold_more f (j ∷ ks) k s = fold_more f ks k (f s)

pub round_more : {S : Type 0} (f : S → S) (n : ℕ) (s : S) → fold (λ z j. f z) s (count_from 0 (n + 1)) ≡ f (fold (λ z j. f z) s (count_from 0 n))
round_more f n s = let e : n + 1 ≡ suc n = omega arith in ap (λ m. fold (λ z j. f z) s (count_from 0 m)) e ∙ ap (fold (λ z j. f z) s) (count_more 0 n) ∙ fold_more f (count_from 0 n) (0 + n) s
