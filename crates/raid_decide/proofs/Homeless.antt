-- Where each site of the workload is up, nobody has lost a home.
use Rattle.std.proofs.Common.{◌≡◌, ℕ, zero, suc, ◌+◌, ◌-◌, ◌<◌, Bool, true, false, not, ◌&&◌, ◌||◌, cond, List, [], ◌∷◌, map, None, Some, refl, ap, sym, arith, ◌∙◌}
use Rattle.std.specs.Prelude.{find, option_map}
use Rattle.std.specs.List.{list_all}
use Rattle.std.proofs.lemmas.Bool.{and_parts}
use Rattle.raid_base.specs.declared.names.Txn.{Txn}
use Rattle.raid_base.specs.declared.names.Site.{Site}
use Rattle.raid_base.specs.declared.entry.Act.TheVariants as acts
use Rattle.raid_base.specs.declared.entry.Cause.TheVariants.{HomeDown}
use Rattle.raid_base.specs.declared.entry.Entry.TheVariants.{Abort}
use Rattle.raid_base.specs.declared.entry.Noted.{Noted}
use Rattle.raid_base.specs.Names.{is_txn, has_txn}
use Rattle.raid_base.specs.Sites.{site}
use Rattle.raid_workload.specs.declared.workload.Workload.{Workload}
use Rattle.raid_workload.specs.Parts.{count_from, txns, sites, home}
use Rattle.raid_rules.specs.History.{is_running}
use Rattle.raid_rules.specs.Sessions.{is_site_up}
use Rattle.raid_legal.specs.Seen.{running, vector}
use Rattle.raid_legal.specs.Forced.{home_down}
use Rattle.raid_serial.proofs.Translate.{eq_self}
use Rattle.raid_placed.proofs.Orderly.{txn_among}
use Rattle.raid_decide.proofs.Rules.{home_is_site}

-- one more of the numbers has been looked at
pub one_passed : (f : Site → Bool) (k n : ℕ) → k < n + 1 → f (site k) ≡ true → list_all f (map site (count_from (k + 1) (n + 1 - (k + 1)))) ≡ list_all f (map site (count_from k (n + 1 - k)))
one_passed f k n below up =
    sym (ap (λ m. list_all f (map site (count_from k m))) (let e : n + 1 - k ≡ suc (n + 1 - (k + 1)) = omega (arith, below) in e)
    ∙ ap (λ b. b && list_all f (map site (count_from (k + 1) (n + 1 - (k + 1))))) up)

-- what all of the numbers pass, each does
all_at : (f : Site → Bool) (a n j : ℕ) → list_all f (map site (count_from a n)) ≡ true → j < n → f (site (a + j)) ≡ true
all_at f a zero j all below = absurd (omega (arith, below))
all_at f a (suc n) zero all below =
    ap (λ k. f (site k)) (let e : a + zero ≡ a = omega arith in e) ∙ (and_parts (f (site a)) (list_all f (map site (count_from (a + 1) n))) all).0
all_at f a (suc n) (suc j) all below =
    ap (λ k. f (site k)) (let e : a + suc j ≡ a + 1 + j = omega arith in e)
    ∙ all_at f (a + 1) n j (and_parts (f (site a)) (list_all f (map site (count_from (a + 1) n))) all).1 (omega (arith, below))

-- the home of a transaction of the workload is up
home_up : (w : Workload) (v : List ℕ) → list_all (is_site_up v) (sites w) ≡ true → (t : Txn) → has_txn (txns w) t ≡ true → is_site_up v (home w t) ≡ true
home_up w v all t known =
    let at = home_is_site w t known in
    ap (λ k. is_site_up v (site k)) (let e : (home w t).0 ≡ 1 + ((home w t).0 - 1) = omega (arith, at.least) in e)
    ∙ all_at (is_site_up v) 1 w.sites ((home w t).0 - 1) all (omega (arith, at.least, at.most))

-- none is found where none passes
none_found : (f : Txn → Bool) (ts : List Txn) → ((t : Txn) → has_txn ts t ≡ true → f t ≡ false) → find f ts ≡ None
none_found f [] h = refl
none_found f (x ∷ xs) h =
    ap (λ b. cond b (Some x) (find f xs)) (h x (ap (λ b. b || has_txn xs x) (eq_self x.0 x.0 refl)))
    ∙ none_found f xs (λ t i. h t (beside (is_txn t x) (has_txn xs t) i))
  where
    beside : (b c : Bool) → c ≡ true → (b || c) ≡ true
    beside true c q = refl
    beside false c q = q

-- so the Abort of who has lost its home isn't there
pub nobody_homeless : (w : Workload) (p : List Noted) (v : List ℕ) → list_all (is_site_up v) (sites w) ≡ true → v ≡ vector w p → home_down w p ≡ None
nobody_homeless w p v all e =
    ap (λ (u : List ℕ). option_map (λ t. Abort t HomeDown acts.Nothing) (find (λ t. not (is_site_up u (home w t))) (running w p))) (sym e)
    ∙ ap (option_map (λ t. Abort t HomeDown acts.Nothing))
    (none_found (λ t. not (is_site_up v (home w t))) (running w p) (λ t i. ap not (home_up w v all t (txn_among (is_running p) (txns w) t i))))
