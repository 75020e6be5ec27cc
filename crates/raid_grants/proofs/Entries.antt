-- Each entry that the sequencer places keeps what is known of a read that was granted: until its site goes down it is up, in one session; and
-- when it goes down, its home is told so, behind what tells it who serves.
use Rattle.std.proofs.Common.{◌≡◌, ℕ, ◌+◌, ◌<◌, ◌≤◌, ◌==◌, nat_lt, Bool, true, false, ◌&&◌, ◌||◌, List, [], ◌∷◌, ◌++◌, length, length-append, if◌then◌else◌, arith, sym, subst, ap, ◌∙◌, refl}
use Rattle.std.specs.List.{list_any}
use Rattle.std.proofs.lemmas.Bool.{and_from, eqb-true, true≢false}
use Rattle.raid_base.specs.declared.names.Txn.{Txn}
use Rattle.raid_base.specs.declared.names.Site.{Site}
use Rattle.raid_base.specs.declared.entry.Entry.{Entry}
use Rattle.raid_base.specs.declared.entry.Entry.TheVariants.{Down, Up}
use Rattle.raid_base.specs.declared.entry.Noted.{Noted}
use Rattle.raid_base.specs.Names.{is_site}
use Rattle.raid_base.specs.Sites.{session, site}
use Rattle.raid_workload.specs.declared.workload.Workload.{Workload}
use Rattle.raid_rules.specs.Entries.{is_down}
use Rattle.raid_rules.specs.History.{noted, next}
use Rattle.raid_rules.specs.Sessions.{last_session, turn_last, turn_vector}
use Rattle.raid_rules.proofs.Push.{noted_push, vector_push}
use Rattle.raid_legal.specs.Seen.{vector, is_up, has_down_after}
use Rattle.raid_message.specs.declared.letter.Message.TheVariants as letters
use Rattle.raid_message.specs.declared.letter.Letter.{Letter}
use Rattle.raid_steps.specs.Fits.{knows_site}
use Rattle.raid_steps.proofs.Parts.{number_known}
use Rattle.raid_placed.specs.Placed.{Placeable}
use Rattle.raid_sessions.proofs.Ledger.{session_set}
use Rattle.raid_sessions.proofs.Lists.{is_same}
use Rattle.raid_layers.specs.Asks.{tells_server}
use Rattle.raid_layers.proofs.Histories.{any_same, any_last, any_kept}
use Rattle.raid_versions.proofs.Mid.{last_push, sized_push}
use Rattle.raid_versions.proofs.Placing.{up_was_down}
use Rattle.raid_vectors.proofs.Along.{its_letter, gets, one_gets, sent, copied, EntriesKeep, CopiesKeep}
use Rattle.raid_grants.specs.Grants.{note_comes}
use Rattle.raid_grants.proofs.Facts.{any_on, or_first, note_on, note_new, note_one}

pub positive : (n : ℕ) → 1 ≤ n → nat_lt 0 n ≡ true
positive n q = grind (arith, q)

pub some_session : (n : ℕ) → nat_lt 0 n ≡ true → 1 ≤ n
some_session n q = grind (arith, q)

-- a read that was granted to the home at a place, in its session m: the site that serves it was in a session, and since the entry with a
-- number it went down or is in it still
module _ (w : Workload) (k m : ℕ) (t : Txn) (ask : ℕ) (s : Site) (at of : ℕ) (known fallen : Bool) where
  pub record Mid (p : List Noted) (notes : List Letter) : Type 0 where
    pub long : length (vector w p) ≡ w.sites
    pub numbers : at ≤ length p
    pub most : m ≤ last_session p (site (k + 1))
    pub stays : has_down_after p at s ≡ false → session (vector w p) s ≡ of
    pub falls : session (vector w p) (site (k + 1)) ≡ m → has_down_after p at s ≡ true → note_comes m t ask s known notes ≡ true
    pub serves : (is_site s (site (k + 1)) || (known || list_any (tells_server t m ask) notes)) ≡ true
    pub more : fallen ≡ true → has_down_after p at s ≡ true

  pub serves_on : (notes new : List Letter) → (is_site s (site (k + 1)) || (known || list_any (tells_server t m ask) notes)) ≡ true → (is_site s (site (k + 1)) || (known || list_any (tells_server t m ask) (notes ++ new))) ≡ true
  serves_on notes new q =
      or_first (is_site s (site (k + 1))) (known || list_any (tells_server t m ask) notes) (known || list_any (tells_server t m ask) (notes ++ new))
      (or_first known (list_any (tells_server t m ask) notes) (list_any (tells_server t m ask) (notes ++ new)) (any_on (tells_server t m ask) notes new)) q

  module _ (from clock : ℕ) (letter : Letter) (first : List Noted) (low : k < w.sites) (some : 1 ≤ m) (lives : 1 ≤ of) (is_known : knows_site w s ≡ true) where
    known_here : knows_site w (site (k + 1)) ≡ true
    known_here = number_known w k (omega (arith, low))

    module _ (h : List Entry) (e : Entry) (ask_too : ℕ) (notes : List Letter) (mid : Mid (noted h) notes) where
      abbrev q : List Noted
      q = noted (h ++ e ∷ [])

      abbrev new : List Letter
      new = sent w from letter first k clock q ask_too e

      abbrev its_down : Noted → Bool
      its_down n = nat_lt at n.at && is_down (is_site s) n.entry

      vector_now : vector w (noted (h ++ e ∷ [])) ≡ turn_vector (vector w (noted h)) e
      vector_now = ap (vector w) (noted_push h e) ∙ vector_push w.sites (noted h) (next (noted h) e)

      last_now : last_session (noted (h ++ e ∷ [])) (site (k + 1)) ≡ turn_last (site (k + 1)) (last_session (noted h) (site (k + 1))) e
      last_now = ap (λ z. last_session z (site (k + 1))) (noted_push h e) ∙ last_push (noted h) e (site (k + 1))

      long_now : length (vector w (noted (h ++ e ∷ []))) ≡ w.sites
      long_now = ap (λ z. length (vector w z)) (noted_push h e) ∙ sized_push w (noted h) e mid.long

      numbers_now : at ≤ length (noted (h ++ e ∷ []))
      numbers_now = (let a = ap length (noted_push h e) ∙ length-append (noted h) (next (noted h) e ∷ []) in let b = mid.numbers in omega (arith, a, b))

      -- it didn't go down
      down_same : is_down (is_site s) e ≡ false → has_down_after (noted (h ++ e ∷ [])) at s ≡ has_down_after (noted h) at s
      down_same none = ap (λ z. has_down_after z at s) (noted_push h e) ∙ any_same its_down (noted h) (next (noted h) e) (ap (λ b. nat_lt at (next (noted h) e).at && b) none ∙ no (nat_lt at (next (noted h) e).at))
        where
          no : (b : Bool) → (b && false) ≡ false
          no true = refl
          no false = refl

      more_now : fallen ≡ true → has_down_after (noted (h ++ e ∷ [])) at s ≡ true
      more_now was = ap (λ z. has_down_after z at s) (noted_push h e) ∙ any_kept its_down (noted h) (next (noted h) e) (mid.more was)

      keeps : is_down (is_site s) e ≡ false → (has_down_after (noted h) at s ≡ false → session (vector w (noted (h ++ e ∷ []))) s ≡ session (vector w (noted h)) s) →
          (session (vector w (noted (h ++ e ∷ []))) (site (k + 1)) ≡ m → session (vector w (noted h)) (site (k + 1)) ≡ m) → last_session (noted h) (site (k + 1)) ≤ last_session (noted (h ++ e ∷ [])) (site (k + 1)) →
          Mid (noted (h ++ e ∷ [])) (notes ++ sent w from letter first k clock (noted (h ++ e ∷ [])) ask_too e)
      keeps none same was grows = record {
        long = long_now;
        numbers = numbers_now;
        most = (let a = mid.most in omega (arith, a, grows));
        stays = λ up. same (sym (down_same none) ∙ up) ∙ mid.stays (sym (down_same none) ∙ up);
        falls = λ here fell. note_on m t ask s known notes new (mid.falls (was here) (sym (down_same none) ∙ fell));
        serves = serves_on notes new mid.serves;
        more = more_now;
      }

    -- neither a Down nor an Up
    plain : (h : List Entry) (e : Entry) (ask_too : ℕ) (notes : List Letter) → Mid (noted h) notes → turn_vector (vector w (noted h)) e ≡ vector w (noted h) → turn_last (site (k + 1)) (last_session (noted h) (site (k + 1))) e ≡ last_session (noted h) (site (k + 1)) → is_down (is_site s) e ≡ false →
        Mid (noted (h ++ e ∷ [])) (notes ++ sent w from letter first k clock (noted (h ++ e ∷ [])) ask_too e)
    plain h e ask_too notes mid vectors lasts none =
        let same = vector_now h e ask_too notes mid ∙ vectors in
        let last = last_now h e ask_too notes mid ∙ lasts in
        keeps h e ask_too notes mid none (λ up. ap (λ v. session v s) same) (λ here. sym (ap (λ v. session v (site (k + 1))) same) ∙ here) (omega (arith, last))

    falls_down : (h : List Entry) (r : Site) (ask_too : ℕ) → knows_site w r ≡ true → (notes : List Letter) → Mid (noted h) notes → Mid (noted (h ++ Down r ∷ [])) (notes ++ sent w from letter first k clock (noted (h ++ Down r ∷ [])) ask_too (Down r))
    falls_down h r ask_too knows notes mid = go (is_site s r) refl
      where
        q : List Noted
        q = noted (h ++ Down r ∷ [])

        new : List Letter
        new = sent w from letter first k clock (noted (h ++ Down r ∷ [])) ask_too (Down r)

        l : Letter
        l = its_letter k clock (vector w (noted (h ++ Down r ∷ []))) (letters.DownNote r) (is_up w (noted (h ++ Down r ∷ [])))

        new_is : sent w from letter first k clock (noted (h ++ Down r ∷ [])) ask_too (Down r) ≡ gets k clock (vector w (noted (h ++ Down r ∷ []))) (letters.DownNote r) (is_up w (noted (h ++ Down r ∷ []))) (is_up w (noted (h ++ Down r ∷ [])) (site (k + 1)))
        new_is = one_gets k clock (vector w (noted (h ++ Down r ∷ []))) (letters.DownNote r) (is_up w (noted (h ++ Down r ∷ []))) 1 w.sites (omega arith) (omega (arith, low))

        session_is : (x : Site) → knows_site w x ≡ true → session (vector w (noted (h ++ Down r ∷ []))) x ≡ (if is_site x r then 0 else session (vector w (noted h)) x)
        session_is x known_x = ap (λ v. session v x) (vector_now h (Down r) ask_too notes mid) ∙ session_set w (vector w (noted h)) r x 0 mid.long knows known_x

        last : last_session (noted (h ++ Down r ∷ [])) (site (k + 1)) ≡ last_session (noted h) (site (k + 1))
        last = last_now h (Down r) ask_too notes mid

        -- the home stays
        was : session (vector w (noted (h ++ Down r ∷ []))) (site (k + 1)) ≡ m → (is_site (site (k + 1)) r ≡ false) × (session (vector w (noted h)) (site (k + 1)) ≡ m)
        was here = by (is_site (site (k + 1)) r) refl
          where
            by : (b : Bool) → is_site (site (k + 1)) r ≡ b → (is_site (site (k + 1)) r ≡ false) × (session (vector w (noted h)) (site (k + 1)) ≡ m)
            by true e = absurd (let a = session_is (site (k + 1)) known_here ∙ ap (λ b. if b then 0 else session (vector w (noted h)) (site (k + 1))) e in omega (arith, a, here, some))
            by false e = (e, sym (session_is (site (k + 1)) known_here ∙ ap (λ b. if b then 0 else session (vector w (noted h)) (site (k + 1))) e) ∙ here)

        go : (b : Bool) → is_site s r ≡ b → Mid (noted (h ++ Down r ∷ [])) (notes ++ sent w from letter first k clock (noted (h ++ Down r ∷ [])) ask_too (Down r))
        go false e = keeps h (Down r) ask_too notes mid e (λ up. session_is s is_known ∙ ap (λ b. if b then 0 else session (vector w (noted h)) s) e) (λ here. (was here).1) (omega (arith, last))
        go true e = record {
          long = long_now h (Down r) ask_too notes mid;
          numbers = numbers_now h (Down r) ask_too notes mid;
          most = (let a = mid.most in omega (arith, a, last));
          stays = λ up. absurd (true≢false (sym fell ∙ up));
          falls = λ here gone. note_new m t ask s known notes new (told (was here).0) (subst (λ ls. note_comes m t ask s true ls ≡ true) (sym (new_is ∙ ap (gets k clock (vector w q) (letters.DownNote r) (is_up w q)) (ap (nat_lt 0) here ∙ positive m some))) (note_one m t ask s l (is_same (session (vector w q) (site (k + 1))) m here) e));
          serves = serves_on notes new mid.serves;
          more = λ was. fell;
        }
          where
            late : (a b : ℕ) → a ≤ b → nat_lt a (b + 1) ≡ true
            late a b q = grind (arith, q)

            fell : has_down_after (noted (h ++ Down r ∷ [])) at s ≡ true
            fell = ap (λ z. has_down_after z at s) (noted_push h (Down r)) ∙ any_last (its_down h (Down r) ask_too notes mid) (noted h) (next (noted h) (Down r)) (and_from (nat_lt at (length (noted h) + 1)) (is_site s r) (late at (length (noted h)) mid.numbers) e)

            told : is_site (site (k + 1)) r ≡ false → (known || list_any (tells_server t m ask) notes) ≡ true
            told other = subst (λ b. (b || (known || list_any (tells_server t m ask) notes)) ≡ true) (apart (k + 1) r.0 s.0 other e) mid.serves
              where
                apart : (a b c : ℕ) → (b == a) ≡ false → (b == c) ≡ true → (a == c) ≡ false
                apart a b c x y = grind (arith, x, y)

    rises : (h : List Entry) (r : Site) (n ask_too : ℕ) → Placeable w (noted h) (Up r n) → knows_site w r ≡ true → last_session (noted h) r < n → (notes : List Letter) → Mid (noted h) notes → Mid (noted (h ++ Up r n ∷ [])) (notes ++ sent w from letter first k clock (noted (h ++ Up r n ∷ [])) ask_too (Up r n))
    rises h r n ask_too goes knows later notes mid = keeps h (Up r n) ask_too notes mid refl same was grows
      where
        session_is : (x : Site) → knows_site w x ≡ true → session (vector w (noted (h ++ Up r n ∷ []))) x ≡ (if is_site x r then n else session (vector w (noted h)) x)
        session_is x known_x = ap (λ v. session v x) (vector_now h (Up r n) ask_too notes mid) ∙ session_set w (vector w (noted h)) r x n mid.long knows known_x

        last : last_session (noted (h ++ Up r n ∷ [])) (site (k + 1)) ≡ (if is_site (site (k + 1)) r then n else last_session (noted h) (site (k + 1)))
        last = last_now h (Up r n) ask_too notes mid

        it_is : (x : Site) → is_site x r ≡ true → x ≡ r
        it_is x e = ap (λ i. let y : Site = record { 0 = i } in y) (sym (eqb-true r.0 x.0 e))

        same : has_down_after (noted h) at s ≡ false → session (vector w (noted (h ++ Up r n ∷ []))) s ≡ session (vector w (noted h)) s
        same up = by (is_site s r) refl
          where
            by : (b : Bool) → is_site s r ≡ b → session (vector w (noted (h ++ Up r n ∷ []))) s ≡ session (vector w (noted h)) s
            by true e = absurd (true≢false (sym (positive (session (vector w (noted h)) s) (let a = mid.stays up in omega (arith, a, lives))) ∙ ap (is_up w (noted h)) (it_is s e) ∙ up_was_down w (noted h) r n goes))
            by false e = session_is s is_known ∙ ap (λ b. if b then n else session (vector w (noted h)) s) e

        before : is_site (site (k + 1)) r ≡ true → last_session (noted h) (site (k + 1)) < n
        before e = subst (λ z. last_session (noted h) z < n) (sym (it_is (site (k + 1)) e)) later

        was : session (vector w (noted (h ++ Up r n ∷ []))) (site (k + 1)) ≡ m → session (vector w (noted h)) (site (k + 1)) ≡ m
        was here = by (is_site (site (k + 1)) r) refl
          where
            by : (b : Bool) → is_site (site (k + 1)) r ≡ b → session (vector w (noted h)) (site (k + 1)) ≡ m
            by true e = absurd (let a = session_is (site (k + 1)) known_here ∙ ap (λ b. if b then n else session (vector w (noted h)) (site (k + 1))) e in let b = before e in let c = mid.most in omega (arith, a, b, c, here))
            by false e = sym (session_is (site (k + 1)) known_here ∙ ap (λ b. if b then n else session (vector w (noted h)) (site (k + 1))) e) ∙ here

        grows : last_session (noted h) (site (k + 1)) ≤ last_session (noted (h ++ Up r n ∷ [])) (site (k + 1))
        grows = by (is_site (site (k + 1)) r) refl
          where
            by : (b : Bool) → is_site (site (k + 1)) r ≡ b → last_session (noted h) (site (k + 1)) ≤ last_session (noted (h ++ Up r n ∷ [])) (site (k + 1))
            by true e = (let a = last ∙ ap (λ b. if b then n else last_session (noted h) (site (k + 1))) e in let b = before e in omega (arith, a, b))
            by false e = (let a = last ∙ ap (λ b. if b then n else last_session (noted h) (site (k + 1))) e in omega (arith, a))

    pub entries_keep : EntriesKeep w from letter first k clock Mid
    entries_keep h (Down r) ask_too placed goes why notes mid = falls_down h r ask_too why notes mid
    entries_keep h (Up r n) ask_too placed goes why notes mid = rises h r n ask_too goes why.0 why.1 notes mid
    entries_keep h other ask_too placed goes why notes mid = plain h other ask_too notes mid refl refl refl

    pub copies_keep : CopiesKeep w from letter first k clock Mid
    copies_keep p due notes mid = record {
      long = mid.long;
      numbers = mid.numbers;
      most = mid.most;
      stays = mid.stays;
      falls = λ here fell. note_on m t ask s known notes (copied w from letter first k clock p due) (mid.falls here fell);
      serves = serves_on notes (copied w from letter first k clock p due) mid.serves;
      more = mid.more;
    }
