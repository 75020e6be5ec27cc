-- In every run, who owes an Ack has its Apply or the Ack on its way.
use Rattle.std.proofs.Common.{◌≡◌, ◌≢◌, ◌⊎◌, inl, inr, ℕ, zero, suc, ◌+◌, ◌<◌, ◌≤◌, ◌==◌, nat_lt, Bool, true, false, not, ◌&&◌, ◌||◌, List, [], ◌∷◌, ◌++◌, length, map, find, fold, option_map, Option, Some, None, if◌then◌else◌, arith, sym, subst, ap, ◌∙◌, refl, append-nil}
use Rattle.std.specs.Prelude.{⊤, slice_get}
use Rattle.std.specs.List.{AllByRecursion, list_any}
use Rattle.std.specs.Option.{option_map_or}
use Rattle.std.proofs.lemmas.Bool.{and_from, and_parts, eqb-true, true≢false}
use Rattle.std.proofs.lemmas.List.Folds.{list_any-append}
use Rattle.raid_base.specs.declared.names.Txn.{Txn}
use Rattle.raid_base.specs.declared.names.Item.{Item}
use Rattle.raid_base.specs.declared.names.Site.{Site}
use Rattle.raid_base.specs.declared.entry.Entry.{Entry}
use Rattle.raid_base.specs.declared.entry.Entry.TheVariants.{Commit, Ack, Down, Up}
use Rattle.raid_base.specs.declared.entry.Noted.{Noted}
use Rattle.raid_base.specs.declared.request.Request.{Request}
use Rattle.raid_base.specs.Names.{is_txn, is_site, has_site}
use Rattle.raid_base.specs.Sites.{session, site}
use Rattle.raid_workload.specs.declared.workload.Workload.{Workload}
use Rattle.raid_workload.specs.Parts.{sites, count_from}
use Rattle.raid_rules.specs.History.{noted, add, next}
use Rattle.raid_rules.specs.Sessions.{owes, last_session, turn_owed, turn_vector}
use Rattle.raid_rules.proofs.Push.{noted_push, vector_push, same_txn}
use Rattle.raid_legal.specs.Seen.{vector, is_up, up_holders}
use Rattle.raid_message.specs.declared.letter.Message.{Message}
use Rattle.raid_message.specs.declared.letter.Message.TheVariants as letters
use Rattle.raid_message.specs.declared.letter.Letter.{Letter}
use Rattle.raid_steps.specs.State.{Out, SiteState, Copying}
use Rattle.raid_steps.specs.Fits.{knows_site}
use Rattle.raid_steps.specs.Sequencer as rows
use Rattle.raid_steps.proofs.Parts.{number_known}
use Rattle.raid_placed.specs.Placed.{Placed, Placeable}
use Rattle.raid_sessions.proofs.Ledger.{session_set}
use Rattle.raid_sessions.proofs.Mail.{letters_to}
use Rattle.raid_asks.proofs.Facts.{or_left, or_right, or_parts}
use Rattle.raid_asks.proofs.Notes.{all_sent}
use Rattle.raid_versions.specs.Versions as versions
use Rattle.raid_versions.specs.Versions.{is_pending}
use Rattle.raid_versions.proofs.Mid.{owes_now, sized_push}
use Rattle.raid_versions.proofs.Placing.{commit_whole, holder_up, up_was_down}
use Rattle.raid_versions.proofs.Sent.{sends_of, apply_pending}
use Rattle.raid_versions.proofs.Steps.{Why}
use Rattle.raid_vectors.specs.Vectors.{IsTold}
use Rattle.raid_vectors.specs.Acks.{applies, is_to_apply, is_acked, OwesWhatComes}
use Rattle.raid_vectors.proofs.Along.{sent, copied, EntriesKeep, CopiesKeep}

-- what is on its way stays so when more is sent
pub to_apply_on : (m : ℕ) (t : Txn) (xs ys : List Letter) → is_to_apply m t xs ≡ true → is_to_apply m t (xs ++ ys) ≡ true
to_apply_on m t xs ys q = list_any-append (λ (l : Letter). l.to == m && applies t l.message) xs ys ∙ or_left (is_to_apply m t xs) (is_to_apply m t ys) q

to_apply_new : (m : ℕ) (t : Txn) (xs ys : List Letter) → is_to_apply m t ys ≡ true → is_to_apply m t (xs ++ ys) ≡ true
to_apply_new m t xs ys q = list_any-append (λ (l : Letter). l.to == m && applies t l.message) xs ys ∙ or_right (is_to_apply m t xs) (is_to_apply m t ys) q

-- a Commit that is pending is one of the transaction
pending_txn : (m number : ℕ) (t : Txn) (ls : List Letter) → AllByRecursion (λ (l : Letter). versions.applies number l.message ≡ true → applies t l.message ≡ true) ls → is_pending m number ls ≡ true → is_to_apply m t ls ≡ true
pending_txn m number t [] a q = absurd (true≢false (sym q))
pending_txn m number t (l ∷ ls) a q = elim (or_parts (l.to == m && versions.applies number l.message) (is_pending m number ls) q) [
  | inl here ↦ (let both = and_parts (l.to == m) (versions.applies number l.message) here in or_left (l.to == m && applies t l.message) (is_to_apply m t ls) (and_from (l.to == m) (applies t l.message) both.0 (a.0 both.1)))
  | inr more ↦ or_right (l.to == m && applies t l.message) (is_to_apply m t ls) (pending_txn m number t ls a.1 more)
]

abbrev sites_from : ℕ → ℕ → List Site
sites_from a n = map site (count_from a n)

among : (a n i : ℕ) → a ≤ i → i < a + n → has_site (sites_from a n) (site i) ≡ true
among a zero i l g = absurd (omega (arith, l, g))
among a (suc n) i l g = step (a == i) refl (λ more. among (a + 1) n i more (omega (arith, g)))
  where
    later : (a == i) ≡ false → a + 1 ≤ i
    later z = grind (arith, z, l)

    step : (b : Bool) → (a == i) ≡ b → (a + 1 ≤ i → has_site (sites_from (a + 1) n) (site i) ≡ true) → (b || has_site (sites_from (a + 1) n) (site i)) ≡ true
    step true z rest = refl
    step false z rest = rest (later z)

module _ (w : Workload) (k : ℕ) (s : SiteState) (asks : List Letter) where
  -- in the middle of the sequencer's step
  pub record Owed (p : List Noted) (notes : List Letter) : Type 0 where
    pub long : length (vector w p) ≡ w.sites
    pub owers : (t : Txn) → owes p (site (k + 1)) t ≡ true → 1 ≤ session (vector w p) (site (k + 1))
    pub comes : IsTold w p k s → OwesWhatComes p k s asks notes

  module _ (from clock : ℕ) (letter : Letter) (first : List Noted) (low : k < w.sites) (some : 1 ≤ s.session) where
    known_here : knows_site w (site (k + 1)) ≡ true
    known_here = number_known w k (omega (arith, low))

    module _ (h : List Entry) (e : Entry) (ask : ℕ) (goes : Placeable w (noted h) e) (why : Why w from letter first (noted h) e) (notes : List Letter) (mid : Owed (noted h) notes) where
      abbrev q : List Noted
      q = noted (h ++ e ∷ [])

      abbrev new : List Letter
      new = sent w from letter first k clock q ask e

      vector_now : vector w (noted (h ++ e ∷ [])) ≡ turn_vector (vector w (noted h)) e
      vector_now = ap (vector w) (noted_push h e) ∙ vector_push w.sites (noted h) (next (noted h) e)

      owed_now : (t : Txn) → owes (noted (h ++ e ∷ [])) (site (k + 1)) t ≡ turn_owed (site (k + 1)) t (owes (noted h) (site (k + 1)) t) e
      owed_now t = ap (λ z. owes z (site (k + 1)) t) (noted_push h e) ∙ owes_now (noted h) e (site (k + 1)) t

      long_now : length (vector w (noted (h ++ e ∷ []))) ≡ w.sites
      long_now = ap (λ z. length (vector w z)) (noted_push h e) ∙ sized_push w (noted h) e mid.long

      carried : (t : Txn) → (is_to_apply s.session t notes || is_acked s.session t asks) ≡ true → (is_to_apply s.session t (notes ++ sent w from letter first k clock (noted (h ++ e ∷ [])) ask e) || is_acked s.session t asks) ≡ true
      carried t old = elim (or_parts (is_to_apply s.session t notes) (is_acked s.session t asks) old) [
        | inl a ↦ or_left (is_to_apply s.session t (notes ++ new)) (is_acked s.session t asks) (to_apply_on s.session t notes new a)
        | inr a ↦ or_right (is_to_apply s.session t (notes ++ new)) (is_acked s.session t asks) a
      ]

      -- nothing more is owed, and where the site is up it was
      eased : ((t : Txn) → turn_owed (site (k + 1)) t (owes (noted h) (site (k + 1)) t) e ≡ true → (owes (noted h) (site (k + 1)) t ≡ true) × (1 ≤ session (vector w (noted h)) (site (k + 1)) → 1 ≤ session (vector w (noted (h ++ e ∷ []))) (site (k + 1)))) →
          (IsTold w (noted (h ++ e ∷ [])) k s → (t : Txn) → owes (noted h) (site (k + 1)) t ≡ true → IsTold w (noted h) k s) → Owed (noted (h ++ e ∷ [])) (notes ++ sent w from letter first k clock (noted (h ++ e ∷ [])) ask e)
      eased fewer was = record {
        long = long_now;
        owers = λ t o. (let f = fewer t (sym (owed_now t) ∙ o) in f.1 (mid.owers t f.0));
        comes = λ told t o. (let f = fewer t (sym (owed_now t) ∙ o) in carried t (mid.comes (was told t f.0) t f.0));
      }

    same_session : (h : List Entry) (e : Entry) → turn_vector (vector w (noted h)) e ≡ vector w (noted h) → session (vector w (noted (h ++ e ∷ []))) (site (k + 1)) ≡ session (vector w (noted h)) (site (k + 1))
    same_session h e same = ap (λ v. session v (site (k + 1))) (ap (vector w) (noted_push h e) ∙ vector_push w.sites (noted h) (next (noted h) e) ∙ same)

    -- an entry that leaves the vector
    plain : (h : List Entry) (e : Entry) (ask : ℕ) → Placeable w (noted h) e → Why w from letter first (noted h) e → (notes : List Letter) → Owed (noted h) notes → turn_vector (vector w (noted h)) e ≡ vector w (noted h) →
        ((t : Txn) → turn_owed (site (k + 1)) t (owes (noted h) (site (k + 1)) t) e ≡ true → owes (noted h) (site (k + 1)) t ≡ true) → Owed (noted (h ++ e ∷ [])) (notes ++ sent w from letter first k clock (noted (h ++ e ∷ [])) ask e)
    plain h e ask goes why notes mid same fewer =
        let now = same_session h e same in
        eased h e ask goes why notes mid (λ t o. (fewer t o, λ up. omega (arith, now, up))) (λ told t o. record { up = told.up; told = sym now ∙ told.told })

    down : (h : List Entry) (r : Site) (ask : ℕ) → Placeable w (noted h) (Down r) → knows_site w r ≡ true → (notes : List Letter) → Owed (noted h) notes → Owed (noted (h ++ Down r ∷ [])) (notes ++ sent w from letter first k clock (noted (h ++ Down r ∷ [])) ask (Down r))
    down h r ask goes known notes mid = go (is_site (site (k + 1)) r) refl
      where
        session_is : session (vector w (noted (h ++ Down r ∷ []))) (site (k + 1)) ≡ (if is_site (site (k + 1)) r then 0 else session (vector w (noted h)) (site (k + 1)))
        session_is = ap (λ v. session v (site (k + 1))) (vector_now h (Down r) ask goes known notes mid) ∙ session_set w (vector w (noted h)) r (site (k + 1)) 0 mid.long known known_here

        go : (c : Bool) → is_site (site (k + 1)) r ≡ c → Owed (noted (h ++ Down r ∷ [])) (notes ++ sent w from letter first k clock (noted (h ++ Down r ∷ [])) ask (Down r))
        go true c = eased h (Down r) ask goes known notes mid (λ t o. absurd (none (owes (noted h) (site (k + 1)) t) (is_site (site (k + 1)) r) c o))
            (λ told t o. absurd (let a = session_is ∙ ap (λ b. if b then 0 else session (vector w (noted h)) (site (k + 1))) c in let b = told.told in omega (arith, a, b, some)))
          where
            none : (a b : Bool) → b ≡ true → (a && not b) ≡ true → ⊥
            none true true e q = true≢false (sym q)
            none false true e q = true≢false (sym q)
            none a false e q = true≢false (sym e)
        go false c =
            let now = session_is ∙ ap (λ b. if b then 0 else session (vector w (noted h)) (site (k + 1))) c in
            eased h (Down r) ask goes known notes mid (λ t o. ((and_parts (owes (noted h) (site (k + 1)) t) (not (is_site (site (k + 1)) r)) o).0, λ up. omega (arith, now, up))) (λ told t o. record { up = told.up; told = sym now ∙ told.told })

    rise : (h : List Entry) (r : Site) (n ask : ℕ) → Placeable w (noted h) (Up r n) → Why w from letter first (noted h) (Up r n) → (notes : List Letter) → Owed (noted h) notes → Owed (noted (h ++ Up r n ∷ [])) (notes ++ sent w from letter first k clock (noted (h ++ Up r n ∷ [])) ask (Up r n))
    rise h r n ask goes why notes mid = go (is_site (site (k + 1)) r) refl
      where
        session_is : session (vector w (noted (h ++ Up r n ∷ []))) (site (k + 1)) ≡ (if is_site (site (k + 1)) r then n else session (vector w (noted h)) (site (k + 1)))
        session_is = ap (λ v. session v (site (k + 1))) (vector_now h (Up r n) ask goes why notes mid) ∙ session_set w (vector w (noted h)) r (site (k + 1)) n mid.long why.0 known_here

        go : (c : Bool) → is_site (site (k + 1)) r ≡ c → Owed (noted (h ++ Up r n ∷ [])) (notes ++ sent w from letter first k clock (noted (h ++ Up r n ∷ [])) ask (Up r n))
        go true c = eased h (Up r n) ask goes why notes mid (λ t o. absurd (none t o)) (λ told t o. absurd (none t o))
          where
            here_is : site (k + 1) ≡ r
            here_is = ap (λ i. let x : Site = record { 0 = i } in x) (sym (eqb-true r.0 (k + 1) c))

            positive : (a : ℕ) → 1 ≤ a → nat_lt 0 a ≡ false → ⊥
            positive a q z = grind (arith, q, z)

            none : (t : Txn) → owes (noted h) (site (k + 1)) t ≡ true → ⊥
            none t o = positive (session (vector w (noted h)) (site (k + 1))) (mid.owers t o) (ap (is_up w (noted h)) here_is ∙ up_was_down w (noted h) r n goes)
        go false c =
            let now = session_is ∙ ap (λ b. if b then n else session (vector w (noted h)) (site (k + 1))) c in
            eased h (Up r n) ask goes why notes mid (λ t o. (o, λ up. omega (arith, now, up))) (λ told t o. record { up = told.up; told = sym now ∙ told.told })

    commit : (h : List Entry) (u : Txn) (request : Request) (applied : List Site) (ask : ℕ) → Placeable w (noted h) (Commit u request applied) → (notes : List Letter) → Owed (noted h) notes →
        Owed (noted (h ++ Commit u request applied ∷ [])) (notes ++ sent w from letter first k clock (noted (h ++ Commit u request applied ∷ [])) ask (Commit u request applied))
    commit h u request applied ask goes notes mid = record {
      long = long_now h (Commit u request applied) ask goes tt notes mid;
      owers = λ t o. subst (λ n. 1 ≤ n) (sym now) (holds t (or_parts (owes (noted h) (site (k + 1)) t) (is_txn t u && has_site applied (site (k + 1))) (sym (owed_now h (Commit u request applied) ask goes tt notes mid t) ∙ o)));
      comes = λ told t o. witness told t (or_parts (owes (noted h) (site (k + 1)) t) (is_txn t u && has_site applied (site (k + 1))) (sym (owed_now h (Commit u request applied) ask goes tt notes mid t) ∙ o));
    }
      where
        q : List Noted
        q = noted (h ++ Commit u request applied ∷ [])

        now : session (vector w (noted (h ++ Commit u request applied ∷ []))) (site (k + 1)) ≡ session (vector w (noted h)) (site (k + 1))
        now = same_session h (Commit u request applied) refl

        positive : (a : ℕ) → nat_lt 0 a ≡ true → 1 ≤ a
        positive a z = grind (arith, z)

        holds : (t : Txn) → (owes (noted h) (site (k + 1)) t ≡ true) ⊎ ((is_txn t u && has_site applied (site (k + 1))) ≡ true) → 1 ≤ session (vector w (noted h)) (site (k + 1))
        holds t (inl old) = mid.owers t old
        holds t (inr both) =
            let there = (and_parts (is_txn t u) (has_site applied (site (k + 1))) both).1 in
            positive (session (vector w (noted h)) (site (k + 1))) (holder_up w (noted h) request.writes (site (k + 1)) (subst (λ ss. has_site ss (site (k + 1)) ≡ true) (commit_whole w (noted h) u request applied goes) there)).0

        are_of : (t : Txn) → is_txn t u ≡ true → AllByRecursion (λ (l : Letter). versions.applies (length (noted (h ++ Commit u request applied ∷ []))) l.message ≡ true → applies t l.message ≡ true) (sent w from letter first k clock (noted (h ++ Commit u request applied ∷ [])) ask (Commit u request applied))
        are_of t same = all_sent (λ (l : Letter). versions.applies (length (noted (h ++ Commit u request applied ∷ []))) l.message ≡ true → applies t l.message ≡ true) (k + 2) 0 clock (rows.sends w q ask (Commit u request applied))
            (sends_of w q ask (λ (out : Out). out.0 ≡ k + 2 → versions.applies (length (noted (h ++ Commit u request applied ∷ []))) out.2 ≡ true → applies t out.2 ≡ true) (Commit u request applied) (λ x. ((λ there to z. same), (λ to z. absurd (true≢false (sym z))))))

        witness : IsTold w (noted (h ++ Commit u request applied ∷ [])) k s → (t : Txn) → (owes (noted h) (site (k + 1)) t ≡ true) ⊎ ((is_txn t u && has_site applied (site (k + 1))) ≡ true) →
            (is_to_apply s.session t (notes ++ sent w from letter first k clock (noted (h ++ Commit u request applied ∷ [])) ask (Commit u request applied)) || is_acked s.session t asks) ≡ true
        witness told t (inl old) = carried h (Commit u request applied) ask goes tt notes mid t (mid.comes (record { up = told.up; told = sym now ∙ told.told }) t old)
        witness told t (inr both) =
            let parts = and_parts (is_txn t u) (has_site applied (site (k + 1))) both in
            let new = sent w from letter first k clock q ask (Commit u request applied) in
            let pending = apply_pending w q u applied k clock parts.1 (sites w) (among 1 w.sites (k + 1) (omega arith) (omega (arith, low))) in
            or_left (is_to_apply s.session t (notes ++ new)) (is_acked s.session t asks)
            (to_apply_new s.session t notes new (subst (λ m. is_to_apply m t new ≡ true) told.told (pending_txn (session (vector w q) (site (k + 1))) (length q) t new (are_of t parts.0) pending)))

    pub entries_owe : EntriesKeep w from letter first k clock Owed
    entries_owe h (Commit u request applied) ask placed goes why notes mid = commit h u request applied ask goes notes mid
    entries_owe h (Ack u r) ask placed goes why notes mid = plain h (Ack u r) ask goes why notes mid refl (λ t o. (and_parts (owes (noted h) (site (k + 1)) t) (not (is_txn t u && is_site (site (k + 1)) r)) o).0)
    entries_owe h (Down r) ask placed goes why notes mid = down h r ask goes why notes mid
    entries_owe h (Up r n) ask placed goes why notes mid = rise h r n ask goes why notes mid
    entries_owe h other ask placed goes why notes mid = plain h other ask goes why notes mid refl (λ t o. o)

    pub copies_owe : CopiesKeep w from letter first k clock Owed
    copies_owe p due notes mid = record {
      long = mid.long;
      owers = mid.owers;
      comes = λ told t o. elim (or_parts (is_to_apply s.session t notes) (is_acked s.session t asks) (mid.comes told t o)) [
        | inl a ↦ or_left (is_to_apply s.session t (notes ++ copied w from letter first k clock p due)) (is_acked s.session t asks) (to_apply_on s.session t notes (copied w from letter first k clock p due) a)
        | inr a ↦ or_right (is_to_apply s.session t (notes ++ copied w from letter first k clock p due)) (is_acked s.session t asks) a
      ];
    }
