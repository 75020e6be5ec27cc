-- What an entry sends, and what there is on the links after it.
use Rattle.std.proofs.Common.{◌≡◌, ◌≢◌, ◌⊎◌, inl, inr, ℕ, zero, suc, ◌+◌, ◌==◌, Bool, true, false, not, ◌&&◌, ◌||◌, List, [], ◌∷◌, ◌++◌, length, map, filter, fold, if◌then◌else◌, arith, sym, subst, ap, ◌∙◌, refl, append_assoc}
use Rattle.std.specs.Prelude.{⊤, flat_map, slice_set, slice_index_or}
use Rattle.std.specs.List.{AllByRecursion}
use Rattle.std.proofs.lemmas.List.{get_or-set_other}
use Rattle.std.proofs.lemmas.Bool.{and_from, eqb-true, true≢false}
use Rattle.raid_base.specs.declared.names.Txn.{Txn}
use Rattle.raid_base.specs.declared.names.Item.{Item}
use Rattle.raid_base.specs.declared.names.Site.{Site}
use Rattle.raid_base.specs.declared.entry.Entry.{Entry}
use Rattle.raid_base.specs.declared.entry.Entry.TheVariants.{Read, Commit, Abort, Down, Up}
use Rattle.raid_base.specs.declared.entry.Noted.{Noted}
use Rattle.raid_base.specs.Names.{is_site, has_site}
use Rattle.raid_base.specs.Sites.{session, site}
use Rattle.raid_workload.specs.declared.workload.Workload.{Workload}
use Rattle.raid_workload.specs.Parts.{sites, home}
use Rattle.raid_legal.specs.Seen.{vector, is_up}
use Rattle.raid_message.specs.declared.letter.Message.{Message}
use Rattle.raid_message.specs.declared.letter.Message.TheVariants as letters
use Rattle.raid_message.specs.declared.letter.Letter.{Letter}
use Rattle.raid_steps.specs.State.{Out, to_site}
use Rattle.raid_steps.specs.Sequencer as rows
use Rattle.raid_steps.specs.World.{link, set_link, post}
use Rattle.raid_sessions.proofs.Lists.{all_append, same_self}
use Rattle.raid_sessions.proofs.Mail.{same_or_not, set_server, letter_of, letters_to}
use Rattle.raid_asks.proofs.Facts.{or_left, or_right}
use Rattle.raid_asks.proofs.Notes.{letters_append}
use Rattle.raid_versions.specs.Versions.{applies, is_pending, after_letter, Along}
use Rattle.raid_versions.proofs.Links.{AreUnapplied, pending_on, after_none}

-- links of another sender stay as they are
set_or_same : {X : Type 0} (xs : List X) (k : ℕ) (y d : X) → (slice_index_or (slice_set xs k y) k d ≡ y) ⊎ (slice_set xs k y ≡ xs)
set_or_same [] k y d = inr refl
set_or_same (x ∷ xs) zero y d = inl refl
set_or_same (x ∷ xs) (suc k) y d = elim (set_or_same xs k y d) [ inl set ↦ inl set | inr same ↦ inr (ap (λ zs. x ∷ zs) same) ]

pub set_others : (links : List (List (List Letter))) (a b c d : ℕ) (queue : List Letter) → d ≢ b → link (set_link links a b queue) c d ≡ link links c d
set_others links a b c d queue differ = go (same_or_not c a)
  where
    row : List (List Letter)
    row = slice_set (slice_index_or links a []) b queue

    go : (c ≡ a) ⊎ (c ≢ a) → link (set_link links a b queue) c d ≡ link links c d
    go (inr other) = set_server links a b c d queue other
    go (inl same) = subst (λ z. link (set_link links a b queue) z d ≡ link links z d) (sym same) (elim (set_or_same links a row []) [
      | inl set ↦ ap (λ r. slice_index_or r d []) set ∙ get_or-set_other (slice_index_or links a []) b d queue [] differ
      | inr still ↦ ap (λ ls. link ls a d) still
    ])

pub posts_others : (server session_ clock : ℕ) (outs : List Out) (links : List (List (List Letter))) (c d : ℕ) → d ≢ server → link (fold (post server session_ clock) links outs) c d ≡ link links c d
posts_others server session_ clock [] links c d differ = refl
posts_others server session_ clock (out ∷ outs) links c d differ = posts_others server session_ clock outs (post server session_ clock links out) c d differ ∙ set_others links out.0 server c d _ differ

-- sites by places
pub place_is : (s : Site) (k : ℕ) → s.0 + 1 ≡ k + 2 → s ≡ site (k + 1)
place_is s k q = ap (λ n. let z : Site = record { 0 = n } in z) (let e : s.0 ≡ k + 1 = omega (arith, q) in e)

-- along letters that apply nothing the version stays
pub along_each : (Q : ℕ → Message → List Letter → Type 0) (p : List Noted) (x : Item) (m v : ℕ) (ls : List Letter) → AreUnapplied ls → AllByRecursion (λ (l : Letter). (behind : List Letter) → Q v l.message behind) ls → Along Q p x m v ls
along_each Q p x m v [] none a = tt
along_each Q p x m v (l ∷ ls) none a = ((λ to. a.0 ls), subst (λ k. Along Q p x m k ls) (sym (after_none p x m v l none.0)) (along_each Q p x m v ls none.1 a.1))

-- and where each holds at any version
pub along_any : (Q : ℕ → Message → List Letter → Type 0) (p : List Noted) (x : Item) (m v : ℕ) (ls : List Letter) → AllByRecursion (λ (l : Letter). (k : ℕ) (behind : List Letter) → Q k l.message behind) ls → Along Q p x m v ls
along_any Q p x m v [] a = tt
along_any Q p x m v (l ∷ ls) a = ((λ to. a.0 v ls), along_any Q p x m (after_letter p x m v l) ls a.1)

-- what is to be applied is pending
pub each_pending : (m : ℕ) (ls : List Letter) → AllByRecursion (λ (l : Letter). (l.to == m) ≡ true → (t : Txn) (n : ℕ) → l.message ≡ letters.Apply t n → is_pending m n ls ≡ true) ls
each_pending m ls = go [] ls
  where
    here : (before : List Letter) (l : Letter) (behind : List Letter) → (l.to == m) ≡ true → (t : Txn) (n : ℕ) → l.message ≡ letters.Apply t n → is_pending m n (before ++ l ∷ behind) ≡ true
    here before l behind to t n is = pending_on m n before (l ∷ behind) ∙ or_right (is_pending m n before) (is_pending m n (l ∷ behind))
        (or_left (l.to == m && applies n l.message) (is_pending m n behind) (and_from (l.to == m) (applies n l.message) to (ap (applies n) is ∙ same_self n)))

    go : (before ls : List Letter) → AllByRecursion (λ (l : Letter). (l.to == m) ≡ true → (t : Txn) (n : ℕ) → l.message ≡ letters.Apply t n → is_pending m n (before ++ ls) ≡ true) ls
    go before [] = tt
    go before (l ∷ ls) = (here before l ls, subst (λ zs. AllByRecursion (λ (k : Letter). (k.to == m) ≡ true → (t : Txn) (n : ℕ) → k.message ≡ letters.Apply t n → is_pending m n zs ≡ true) ls) (append_assoc before (l ∷ []) ls) (go (before ++ l ∷ []) ls))

module _ (w : Workload) (q : List Noted) (ask : ℕ) (Q : Out → Type 0) where
  -- it holds of all that an entry may send
  abbrev pub SendsOf : Entry → Type 0
  SendsOf (Read t x s) = Q (to_site (vector w q) s (letters.ReadDo t ask x (home w t) (session (vector w q) (home w t)))) × Q (to_site (vector w q) (home w t) (letters.Serving t ask s))
  SendsOf (Commit t request applied) = (s : Site) → (has_site applied s ≡ true → Q (to_site (vector w q) s (letters.Apply t (length q)))) × Q (to_site (vector w q) s (letters.Done t))
  SendsOf (Abort t cause act) = (s : Site) → Q (to_site (vector w q) s (rows.drop_of w t cause))
  SendsOf (Down r) = (s : Site) → Q (to_site (vector w q) s (letters.DownNote r))
  SendsOf (Up r n) = Q (to_site (vector w q) r (letters.Welcome (vector w q) (rows.next_number w q r))) × ((s : Site) → Q (to_site (vector w q) s (letters.UpNote r n)))
  SendsOf other = ⊤

  to_each : (m : Message) (ss : List Site) → ((s : Site) → Q (to_site (vector w q) s m)) → AllByRecursion Q (map (λ s. to_site (vector w q) s m) ss)
  to_each m [] each = tt
  to_each m (s ∷ ss) each = (each s, to_each m ss each)

  commits : (t : Txn) (applied ss : List Site) → ((s : Site) → (has_site applied s ≡ true → Q (to_site (vector w q) s (letters.Apply t (length q)))) × Q (to_site (vector w q) s (letters.Done t))) → AllByRecursion Q (flat_map (rows.commit_sends w q t applied) ss)
  commits t applied [] each = tt
  commits t applied (s ∷ ss) each = all_append Q (rows.commit_sends w q t applied s) (flat_map (rows.commit_sends w q t applied) ss) (go (has_site applied s) refl (is_site s (home w t) && is_up w q s)) (commits t applied ss each)
    where
      go : (b : Bool) → has_site applied s ≡ b → (c : Bool) → AllByRecursion Q ((if b then to_site (vector w q) s (letters.Apply t (length q)) ∷ [] else []) ++ (if c then to_site (vector w q) s (letters.Done t) ∷ [] else []))
      go true e true = ((each s).0 e, ((each s).1, tt))
      go true e false = ((each s).0 e, tt)
      go false e true = ((each s).1, tt)
      go false e false = tt

  pub sends_of : (e : Entry) → SendsOf e → AllByRecursion Q (rows.sends w q ask e)
  sends_of (Read t x s) h = (h.0, go (is_site s (home w t)))
    where
      go : (b : Bool) → AllByRecursion Q (if b then [] else to_site (vector w q) (home w t) (letters.Serving t ask s) ∷ [])
      go true = tt
      go false = (h.1, tt)
  sends_of (Commit t request applied) h = commits t applied (sites w) h
  sends_of (Abort t cause act) h = to_each (rows.drop_of w t cause) (filter (is_up w q) (sites w)) h
  sends_of (Down r) h = to_each (letters.DownNote r) (filter (is_up w q) (sites w)) h
  sends_of (Up r n) h = (h.0, to_each (letters.UpNote r n) (filter (λ s. is_up w q s && not (is_site r s)) (sites w)) h.1)
  sends_of other h = tt

-- a Commit's Apply is pending at each site where it is applied
module _ (w : Workload) (q : List Noted) (t : Txn) (applied : List Site) (k clock : ℕ) (there : has_site applied (site (k + 1)) ≡ true) where
  abbrev to_here : List Site → List Letter
  to_here ss = letters_to (k + 2) 0 clock (flat_map (rows.commit_sends w q t applied) ss)

  pub apply_pending : (ss : List Site) → has_site ss (site (k + 1)) ≡ true → is_pending (session (vector w q) (site (k + 1))) (length q) (letters_to (k + 2) 0 clock (flat_map (rows.commit_sends w q t applied) ss)) ≡ true
  apply_pending [] h = absurd (true≢false (sym h))
  apply_pending (s ∷ ss) h =
      ap (is_pending m (length q)) (letters_append (k + 2) 0 clock (rows.commit_sends w q t applied s) (flat_map (rows.commit_sends w q t applied) ss))
      ∙ pending_on m (length q) (letters_to (k + 2) 0 clock (rows.commit_sends w q t applied s)) (to_here ss)
      ∙ go (is_site (site (k + 1)) s) refl h (apply_pending ss)
    where
      m : ℕ
      m = session (vector w q) (site (k + 1))

      same_site : is_site (site (k + 1)) s ≡ true → s ≡ site (k + 1)
      same_site e = ap (λ n. let z : Site = record { 0 = n } in z) (eqb-true s.0 (k + 1) e)

      own : (c : Bool) → is_pending m (length q) (letters_to (k + 2) 0 clock (to_site (vector w q) (site (k + 1)) (letters.Apply t (length q)) ∷ (if c then to_site (vector w q) (site (k + 1)) (letters.Done t) ∷ [] else []))) ≡ true
      own c = at (k + 1 + 1 == k + 2) (same k)
        where
          same : (k : ℕ) → (k + 1 + 1 == k + 2) ≡ true
          same k = grind arith

          rest : List Letter
          rest = letters_to (k + 2) 0 clock (if c then to_site (vector w q) (site (k + 1)) (letters.Done t) ∷ [] else [])

          at : (b : Bool) → b ≡ true → is_pending m (length q) (if b then letter_of 0 clock (to_site (vector w q) (site (k + 1)) (letters.Apply t (length q))) ∷ rest else rest) ≡ true
          at true e = or_left (m == m && length q == length q) (is_pending m (length q) rest) (and_from (m == m) (length q == length q) (same_self m) (same_self (length q)))
          at false e = absurd (true≢false (sym e))

      mine : is_pending m (length q) (letters_to (k + 2) 0 clock (rows.commit_sends w q t applied (site (k + 1)))) ≡ true
      mine = at (has_site applied (site (k + 1))) there (is_site (site (k + 1)) (home w t) && is_up w q (site (k + 1)))
        where
          at : (b : Bool) → b ≡ true → (c : Bool) →
              is_pending m (length q) (letters_to (k + 2) 0 clock ((if b then to_site (vector w q) (site (k + 1)) (letters.Apply t (length q)) ∷ [] else []) ++ (if c then to_site (vector w q) (site (k + 1)) (letters.Done t) ∷ [] else []))) ≡ true
          at true e c = own c
          at false e c = absurd (true≢false (sym e))

      go : (b : Bool) → is_site (site (k + 1)) s ≡ b → (b || has_site ss (site (k + 1))) ≡ true → (has_site ss (site (k + 1)) ≡ true → is_pending m (length q) (to_here ss) ≡ true) →
          (is_pending m (length q) (letters_to (k + 2) 0 clock (rows.commit_sends w q t applied s)) || is_pending m (length q) (to_here ss)) ≡ true
      go true e r rest = or_left (is_pending m (length q) (letters_to (k + 2) 0 clock (rows.commit_sends w q t applied s))) (is_pending m (length q) (to_here ss))
          (subst (λ z. is_pending m (length q) (letters_to (k + 2) 0 clock (rows.commit_sends w q t applied z)) ≡ true) (sym (same_site e)) mine)
      go false e r rest = or_right (is_pending m (length q) (letters_to (k + 2) 0 clock (rows.commit_sends w q t applied s))) (is_pending m (length q) (to_here ss)) (rest r)
