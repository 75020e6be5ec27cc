-- Each entry that the sequencer places keeps what comes to a site's vector.
use Rattle.std.proofs.Common.{◌≡◌, ◌⊎◌, inl, inr, ℕ, suc, ◌+◌, ◌*◌, ◌<◌, ◌≤◌, ◌==◌, nat_lt, nat_le, Bool, true, false, not, ◌&&◌, List, [], ◌∷◌, ◌++◌, length, map, filter, if◌then◌else◌, arith, sym, subst, ap, ◌∙◌, refl, append-nil}
use Rattle.std.specs.Prelude.{⊤}
use Rattle.std.specs.List.{AllByRecursion}
use Rattle.std.proofs.lemmas.Bool.{and_from, and_parts, eqb-true, true≢false}
use Rattle.raid_base.specs.declared.names.Site.{Site}
use Rattle.raid_base.specs.declared.entry.Entry.{Entry}
use Rattle.raid_base.specs.declared.entry.Entry.TheVariants.{Read, Commit, Abort, Down, Up}
use Rattle.raid_base.specs.declared.entry.Noted.{Noted}
use Rattle.raid_base.specs.Names.{is_site}
use Rattle.raid_base.specs.Sites.{session, site}
use Rattle.raid_workload.specs.declared.workload.Workload.{Workload}
use Rattle.raid_workload.specs.Parts.{sites, home}
use Rattle.raid_rules.specs.History.{noted, next}
use Rattle.raid_rules.specs.Sessions.{last_session, with_session, turn_last, turn_vector}
use Rattle.raid_rules.proofs.Push.{noted_push, vector_push}
use Rattle.raid_legal.specs.Seen.{vector, is_up}
use Rattle.raid_message.specs.declared.letter.Message.{Message}
use Rattle.raid_message.specs.declared.letter.Message.TheVariants as letters
use Rattle.raid_message.specs.declared.letter.Letter.{Letter}
use Rattle.raid_steps.specs.State.{Out, SiteState, to_site, Copying}
use Rattle.raid_steps.specs.Fits.{knows_site, knows_vector, is_of_sequencer}
use Rattle.raid_steps.specs.Sequencer as rows
use Rattle.raid_steps.proofs.Parts.{number_known}
use Rattle.raid_placed.specs.Placed.{Placed, Placeable}
use Rattle.raid_sessions.proofs.Ledger.{is_still, session_set}
use Rattle.raid_sessions.proofs.Lists.{all_append, all_weaken, is_same}
use Rattle.raid_sessions.proofs.Mail.{letter_of, letters_to}
use Rattle.raid_asks.proofs.Homes.{next_ours}
use Rattle.raid_asks.proofs.Least.{IsNext, known_txn}
use Rattle.raid_asks.proofs.Notes.{all_sent}
use Rattle.raid_versions.proofs.Mid.{last_push, sized_push}
use Rattle.raid_versions.proofs.Sent.{SendsOf, sends_of, place_is}
use Rattle.raid_versions.proofs.Steps.{Why}
use Rattle.raid_vectors.specs.Vectors.{told_by, to_come, IsTold, IsWelcome, WelcomeFirst, Comes}
use Rattle.raid_vectors.proofs.Along.{its_letter, gets, one_gets, sent, copied, EntriesKeep, CopiesKeep}

-- what comes when more is told
pub comes_on : (m : ℕ) (v : List ℕ) (xs ys : List Letter) → to_come m v (xs ++ ys) ≡ to_come m (to_come m v xs) ys
comes_on m v [] ys = refl
comes_on m v (x ∷ xs) ys = comes_on m (if x.to == m then told_by v x.message else v) xs ys

one_more : (m : ℕ) (v : List ℕ) (xs : List Letter) (l : Letter) → (l.to == m) ≡ true → to_come m v (xs ++ l ∷ []) ≡ told_by (to_come m v xs) l.message
one_more m v xs l to = comes_on m v xs (l ∷ []) ∙ ap (λ b. if b then told_by (to_come m v xs) l.message else to_come m v xs) to

-- what says nothing of vectors
abbrev pub IsMute : Message → Type 0
IsMute (letters.Welcome v next) = ⊥
IsMute (letters.DownNote s) = ⊥
IsMute (letters.UpNote s n) = ⊥
IsMute other = ⊤

abbrev pub AreMute : List Letter → Type 0
AreMute ls = AllByRecursion (λ (l : Letter). IsMute l.message) ls

pub mute_same : (v : List ℕ) (m : Message) → IsMute m → told_by v m ≡ v
mute_same v (letters.Welcome u next) q = absurd q
mute_same v (letters.DownNote s) q = absurd q
mute_same v (letters.UpNote s n) q = absurd q
mute_same v other q = refl

mute_comes : (m : ℕ) (v : List ℕ) (ls : List Letter) → AreMute ls → to_come m v ls ≡ v
mute_comes m v [] a = refl
mute_comes m v (l ∷ ls) a = ap (λ u. to_come m u ls) (go (l.to == m)) ∙ mute_comes m v ls a.1
  where
    go : (b : Bool) → (if b then told_by v l.message else v) ≡ v
    go true = mute_same v l.message a.0
    go false = refl

first_on : (s : Site) (m : ℕ) (xs ys : List Letter) → WelcomeFirst s m xs → WelcomeFirst s m (xs ++ ys)
first_on s m [] ys q = absurd q
first_on s m (x ∷ xs) ys (inl q) = inl q
first_on s m (x ∷ xs) ys (inr q) = inr (q.0, first_on s m xs ys q.1)

-- behind letters for earlier sessions
first_behind : (s : Site) (m last : ℕ) (xs ys : List Letter) → last < m → AllByRecursion (λ (l : Letter). l.to ≤ last) xs → WelcomeFirst s m ys → WelcomeFirst s m (xs ++ ys)
first_behind s m last [] ys less a q = q
first_behind s m last (x ∷ xs) ys less a q = inr (apart x.to m (let le = a.0 in omega (arith, le, less)), first_behind s m last xs ys less a.1 q)
  where
    apart : (a b : ℕ) → a < b → (a == b) ≡ false
    apart a b q = grind (arith, q)

module _ (w : Workload) (k : ℕ) where
  abbrev pub here : Site
  here = site (k + 1)

  -- what the sequencer tells a site of vectors fits it, and is of other sites
  abbrev pub FitsNote : ℕ → Message → Type 0
  FitsNote to (letters.Welcome v next) = (is_of_sequencer w (letters.Welcome v next) ≡ true) × (session v (site (k + 1)) ≡ to)
  FitsNote to (letters.DownNote r) = (knows_site w r ≡ true) × (is_site (site (k + 1)) r ≡ false)
  FitsNote to (letters.UpNote r n) = (knows_site w r ≡ true) × (is_site (site (k + 1)) r ≡ false)
  FitsNote to other = ⊤

  abbrev pub Fitting : Letter → Type 0
  Fitting l = FitsNote l.to l.message

  mute_fits : (l : Letter) → IsMute l.message → Fitting l
  mute_fits l q = go l.message q
    where
      go : (m : Message) → IsMute m → FitsNote l.to m
      go (letters.Welcome v next) q = absurd q
      go (letters.DownNote r) q = absurd q
      go (letters.UpNote r n) q = absurd q
      go other q = tt

  module _ (s : SiteState) where
    pub record Mid (p : List Noted) (notes : List Letter) : Type 0 where
      pub long : length (vector w p) ≡ w.sites
      pub most : session (vector w p) (site (k + 1)) ≤ last_session p (site (k + 1))
      pub past : AllByRecursion (λ (l : Letter). l.to ≤ last_session p (site (k + 1))) notes
      pub fits : AllByRecursion Fitting notes
      pub comes : IsTold w p k s → Comes w p k s notes

    module _ (from clock : ℕ) (letter : Letter) (first : List Noted) (low : k < w.sites) (some : 1 ≤ s.session) where
      known_here : knows_site w (site (k + 1)) ≡ true
      known_here = number_known w k (omega (arith, low))

      positive : (n : ℕ) → 1 ≤ n → nat_lt 0 n ≡ true
      positive n q = grind (arith, q)

      module _ (h : List Entry) (e : Entry) (ask : ℕ) (why : Why w from letter first (noted h) e) (notes : List Letter) (mid : Mid (noted h) notes) where
        abbrev p : List Noted
        p = noted h

        abbrev q : List Noted
        q = noted (h ++ e ∷ [])

        abbrev new : List Letter
        new = sent w from letter first k clock q ask e

        vector_now : vector w (noted (h ++ e ∷ [])) ≡ turn_vector (vector w (noted h)) e
        vector_now = ap (vector w) (noted_push h e) ∙ vector_push w.sites (noted h) (next (noted h) e)

        last_now : last_session (noted (h ++ e ∷ [])) (site (k + 1)) ≡ turn_last (site (k + 1)) (last_session (noted h) (site (k + 1))) e
        last_now = ap (λ z. last_session z (site (k + 1))) (noted_push h e) ∙ last_push (noted h) e (site (k + 1))

        long_now : length (vector w (noted (h ++ e ∷ []))) ≡ w.sites
        long_now = ap (λ z. length (vector w z)) (noted_push h e) ∙ sized_push w (noted h) e mid.long

        -- what is sent is for no later session
        new_past : session (vector w (noted (h ++ e ∷ []))) (site (k + 1)) ≤ last_session (noted (h ++ e ∷ [])) (site (k + 1)) → AllByRecursion (λ (l : Letter). l.to ≤ last_session (noted (h ++ e ∷ [])) (site (k + 1))) (sent w from letter first k clock (noted (h ++ e ∷ [])) ask e)
        new_past most = all_sent (λ (l : Letter). l.to ≤ last_session q (site (k + 1))) (k + 2) 0 clock (rows.sends w q ask e) (sends_of w q ask (λ (out : Out). out.0 ≡ k + 2 → out.1 ≤ last_session q (site (k + 1))) e (go e))
          where
            at : (r : Site) → r.0 + 1 ≡ k + 2 → session (vector w (noted (h ++ e ∷ []))) r ≤ last_session (noted (h ++ e ∷ [])) (site (k + 1))
            at r to = subst (λ z. session (vector w (noted (h ++ e ∷ []))) z ≤ last_session (noted (h ++ e ∷ [])) (site (k + 1))) (sym (place_is r k to)) most

            go : (d : Entry) → SendsOf w (noted (h ++ e ∷ [])) ask (λ (out : Out). out.0 ≡ k + 2 → out.1 ≤ last_session (noted (h ++ e ∷ [])) (site (k + 1))) d
            go (Read t x r) = (at r, at (home w t))
            go (Commit t request applied) = λ r. ((λ there. at r), at r)
            go (Abort t cause act) = λ r. at r
            go (Down r) = λ x. at x
            go (Up r n) = (at r, λ x. at x)
            go other = tt

        old_past : last_session (noted h) (site (k + 1)) ≤ last_session (noted (h ++ e ∷ [])) (site (k + 1)) → AllByRecursion (λ (l : Letter). l.to ≤ last_session (noted (h ++ e ∷ [])) (site (k + 1))) notes
        old_past grows = all_weaken (λ (l : Letter). l.to ≤ last_session p (site (k + 1))) (λ (l : Letter). l.to ≤ last_session q (site (k + 1))) notes (λ l a. omega (arith, a, grows)) mid.past

        -- what is put together
        whole : session (vector w (noted (h ++ e ∷ []))) (site (k + 1)) ≤ last_session (noted (h ++ e ∷ [])) (site (k + 1)) → last_session (noted h) (site (k + 1)) ≤ last_session (noted (h ++ e ∷ [])) (site (k + 1)) →
            AllByRecursion Fitting (sent w from letter first k clock (noted (h ++ e ∷ [])) ask e) → (IsTold w (noted (h ++ e ∷ [])) k s → Comes w (noted (h ++ e ∷ [])) k s (notes ++ sent w from letter first k clock (noted (h ++ e ∷ [])) ask e)) →
            Mid (noted (h ++ e ∷ [])) (notes ++ sent w from letter first k clock (noted (h ++ e ∷ [])) ask e)
        whole most grows fit comes = record {
          long = long_now;
          most = most;
          past = all_append (λ (l : Letter). l.to ≤ last_session q (site (k + 1))) notes new (old_past grows) (new_past most);
          fits = all_append Fitting notes new mid.fits fit;
          comes = comes;
        }

        -- neither a Down nor an Up
        still : turn_vector (vector w (noted h)) e ≡ vector w (noted h) → turn_last (site (k + 1)) (last_session (noted h) (site (k + 1))) e ≡ last_session (noted h) (site (k + 1)) → SendsOf w (noted (h ++ e ∷ [])) ask (λ (out : Out). IsMute out.2) e →
            Mid (noted (h ++ e ∷ [])) (notes ++ sent w from letter first k clock (noted (h ++ e ∷ [])) ask e)
        still vector_same last_same silent =
            whole (let a = ap (λ v. session v (site (k + 1))) same in let b = mid.most in let c = lasts in omega (arith, a, b, c)) (let c = lasts in omega (arith, c))
            (all_weaken (λ (l : Letter). IsMute l.message) Fitting new mute_fits mute)
            (λ t. kept (mid.comes (record { up = t.up; told = sym (ap (λ v. session v (site (k + 1))) same) ∙ t.told })))
          where
            same : vector w (noted (h ++ e ∷ [])) ≡ vector w (noted h)
            same = vector_now ∙ vector_same

            lasts : last_session (noted (h ++ e ∷ [])) (site (k + 1)) ≡ last_session (noted h) (site (k + 1))
            lasts = last_now ∙ last_same

            mute : AreMute (sent w from letter first k clock (noted (h ++ e ∷ [])) ask e)
            mute = all_sent (λ (l : Letter). IsMute l.message) (k + 2) 0 clock (rows.sends w q ask e) (all_weaken (λ (out : Out). IsMute out.2) (λ (out : Out). out.0 ≡ k + 2 → IsMute out.2) (rows.sends w q ask e) (λ out m to. m) (sends_of w q ask (λ (out : Out). IsMute out.2) e silent))

            kept : Comes w (noted h) k s notes → Comes w (noted (h ++ e ∷ [])) k s (notes ++ sent w from letter first k clock (noted (h ++ e ∷ [])) ask e)
            kept c = record {
              comes = comes_on s.session s.vector notes new ∙ mute_comes s.session (to_come s.session s.vector notes) new mute ∙ c.comes ∙ sym same;
              welcomed = elim c.welcomed [ inl a ↦ inl a | inr a ↦ inr (first_on (site (k + 1)) s.session notes new a) ];
            }

        -- one letter, which tells of the change
        told_one : (l : Letter) → (sent w from letter first k clock (noted (h ++ e ∷ [])) ask e ≡ l ∷ []) → (l.to == s.session) ≡ true → told_by (vector w (noted h)) l.message ≡ turn_vector (vector w (noted h)) e → Comes w (noted h) k s notes →
            Comes w (noted (h ++ e ∷ [])) k s (notes ++ sent w from letter first k clock (noted (h ++ e ∷ [])) ask e)
        told_one l is to turns c = record {
          comes = ap (λ ls. to_come s.session s.vector (notes ++ ls)) is ∙ one_more s.session s.vector notes l to ∙ ap (λ v. told_by v l.message) c.comes ∙ turns ∙ sym vector_now;
          welcomed = elim c.welcomed [ inl a ↦ inl a | inr a ↦ inr (first_on (site (k + 1)) s.session notes new a) ];
        }

      -- a site goes down
      falls : (h : List Entry) (r : Site) (ask : ℕ) → knows_site w r ≡ true → (notes : List Letter) → Mid (noted h) notes → Mid (noted (h ++ Down r ∷ [])) (notes ++ sent w from letter first k clock (noted (h ++ Down r ∷ [])) ask (Down r))
      falls h r ask known notes mid = go (is_site (site (k + 1)) r) refl
        where
          q : List Noted
          q = noted (h ++ Down r ∷ [])

          its : Bool → List Letter
          its b = gets k clock (vector w (noted (h ++ Down r ∷ []))) (letters.DownNote r) (is_up w (noted (h ++ Down r ∷ []))) b

          l : Letter
          l = its_letter k clock (vector w (noted (h ++ Down r ∷ []))) (letters.DownNote r) (is_up w (noted (h ++ Down r ∷ [])))

          new_is : sent w from letter first k clock (noted (h ++ Down r ∷ [])) ask (Down r) ≡ gets k clock (vector w (noted (h ++ Down r ∷ []))) (letters.DownNote r) (is_up w (noted (h ++ Down r ∷ []))) (is_up w (noted (h ++ Down r ∷ [])) (site (k + 1)))
          new_is = one_gets k clock (vector w (noted (h ++ Down r ∷ []))) (letters.DownNote r) (is_up w (noted (h ++ Down r ∷ []))) 1 w.sites (omega arith) (omega (arith, low))

          session_is : session (vector w (noted (h ++ Down r ∷ []))) (site (k + 1)) ≡ (if is_site (site (k + 1)) r then 0 else session (vector w (noted h)) (site (k + 1)))
          session_is = ap (λ v. session v (site (k + 1))) (vector_now h (Down r) ask known notes mid) ∙ session_set w (vector w (noted h)) r (site (k + 1)) 0 mid.long known known_here

          lasts : last_session (noted (h ++ Down r ∷ [])) (site (k + 1)) ≡ last_session (noted h) (site (k + 1))
          lasts = last_now h (Down r) ask known notes mid

          its_fit : is_site (site (k + 1)) r ≡ false → (b : Bool) → AllByRecursion Fitting (gets k clock (vector w (noted (h ++ Down r ∷ []))) (letters.DownNote r) (is_up w (noted (h ++ Down r ∷ []))) b)
          its_fit c true = ((known, c), tt)
          its_fit c false = tt

          go : (c : Bool) → is_site (site (k + 1)) r ≡ c → Mid (noted (h ++ Down r ∷ [])) (notes ++ sent w from letter first k clock (noted (h ++ Down r ∷ [])) ask (Down r))
          go true c =
              whole h (Down r) ask known notes mid (let z = down in omega (arith, z)) (let z = lasts in omega (arith, z))
              (subst (AllByRecursion Fitting) (sym (new_is ∙ ap (gets k clock (vector w (noted (h ++ Down r ∷ []))) (letters.DownNote r) (is_up w (noted (h ++ Down r ∷ [])))) (ap (nat_lt 0) down))) tt)
              (λ t. absurd (let z = down in let y = t.told in omega (arith, z, y, some)))
            where
              down : session (vector w (noted (h ++ Down r ∷ []))) (site (k + 1)) ≡ 0
              down = session_is ∙ ap (λ b. if b then 0 else session (vector w (noted h)) (site (k + 1))) c
          go false c =
              whole h (Down r) ask known notes mid (let z = same in let y = lasts in let x = mid.most in omega (arith, x, y, z)) (let z = lasts in omega (arith, z))
              (subst (AllByRecursion Fitting) (sym new_is) (its_fit c (is_up w (noted (h ++ Down r ∷ [])) (site (k + 1)))))
              (λ t. told_one h (Down r) ask known notes mid l (new_is ∙ ap (gets k clock (vector w (noted (h ++ Down r ∷ []))) (letters.DownNote r) (is_up w (noted (h ++ Down r ∷ [])))) (ap (nat_lt 0) t.told ∙ positive s.session some)) (is_same (session (vector w (noted (h ++ Down r ∷ []))) (site (k + 1))) s.session t.told) refl (mid.comes (record { up = t.up; told = sym same ∙ t.told })))
            where
              same : session (vector w (noted (h ++ Down r ∷ []))) (site (k + 1)) ≡ session (vector w (noted h)) (site (k + 1))
              same = session_is ∙ ap (λ b. if b then 0 else session (vector w (noted h)) (site (k + 1))) c

      -- a site comes up
      module _ (h : List Entry) (r : Site) (n ask : ℕ) (known : knows_site w r ≡ true) (more : last_session (noted h) r < n) (notes : List Letter) (mid : Mid (noted h) notes) where
        abbrev risen : List Noted
        risen = noted (h ++ Up r n ∷ [])

        abbrev others : Site → Bool
        others x = is_up w (noted (h ++ Up r n ∷ [])) x && not (is_site r x)

        abbrev its : Bool → List Letter
        its b = gets k clock (vector w (noted (h ++ Up r n ∷ []))) (letters.UpNote r n) others b

        abbrev l : Letter
        l = its_letter k clock (vector w (noted (h ++ Up r n ∷ []))) (letters.UpNote r n) others

        abbrev welcome : Letter
        welcome = letter_of 0 clock (to_site (vector w (noted (h ++ Up r n ∷ []))) r (letters.Welcome (vector w (noted (h ++ Up r n ∷ []))) (rows.next_number w (noted (h ++ Up r n ∷ [])) r)))

        abbrev left : List Letter
        left = letters_to (k + 2) 0 clock (map (λ x. to_site (vector w (noted (h ++ Up r n ∷ []))) x (letters.UpNote r n)) (filter others (sites w)))

        left_is : left ≡ its (others (site (k + 1)))
        left_is = one_gets k clock (vector w (noted (h ++ Up r n ∷ []))) (letters.UpNote r n) others 1 w.sites (omega arith) (omega (arith, low))

        session_is : session (vector w (noted (h ++ Up r n ∷ []))) (site (k + 1)) ≡ (if is_site (site (k + 1)) r then n else session (vector w (noted h)) (site (k + 1)))
        session_is = ap (λ v. session v (site (k + 1))) (vector_now h (Up r n) ask (known, more) notes mid) ∙ session_set w (vector w (noted h)) r (site (k + 1)) n mid.long known known_here

        lasts : last_session (noted (h ++ Up r n ∷ [])) (site (k + 1)) ≡ (if is_site (site (k + 1)) r then n else last_session (noted h) (site (k + 1)))
        lasts = last_now h (Up r n) ask (known, more) notes mid

        number : (b : Bool) (a j : ℕ) → (a == j + 1) ≡ b → (a + 1 == j + 2) ≡ b
        number true a j e = grind (arith, e)
        number false a j e = grind (arith, e)

        turned : (b : Bool) (a j : ℕ) → (a == j + 1) ≡ b → (j + 1 == a) ≡ b
        turned true a j e = grind (arith, e)
        turned false a j e = grind (arith, e)

        new_is : (b : Bool) → is_site (site (k + 1)) r ≡ b → sent w from letter first k clock (noted (h ++ Up r n ∷ [])) ask (Up r n) ≡ (if b then welcome ∷ left else left)
        new_is b c = ap (λ d. if d then welcome ∷ left else left) (number b r.0 k c)

        its_fit : is_site (site (k + 1)) r ≡ false → (b : Bool) → AllByRecursion Fitting (its b)
        its_fit c true = ((known, c), tt)
        its_fit c false = tt

        none : (a b : Bool) → b ≡ true → (a && not b) ≡ false
        none true true e = refl
        none false true e = refl
        none a false e = absurd (true≢false (sym e))

        both : (a b : Bool) → a ≡ true → b ≡ false → (a && not b) ≡ true
        both true false e f = refl
        both a true e f = absurd (true≢false f)
        both false b e f = absurd (true≢false (sym e))

        rises : Mid (noted (h ++ Up r n ∷ [])) (notes ++ sent w from letter first k clock (noted (h ++ Up r n ∷ [])) ask (Up r n))
        rises = go (is_site (site (k + 1)) r) refl
          where
            go : (c : Bool) → is_site (site (k + 1)) r ≡ c → Mid (noted (h ++ Up r n ∷ [])) (notes ++ sent w from letter first k clock (noted (h ++ Up r n ∷ [])) ask (Up r n))
            go true c =
                whole h (Up r n) ask (known, more) notes mid (let a = up in let b = last in omega (arith, a, b)) (let b = last in let m = before in omega (arith, b, m))
                (subst (AllByRecursion Fitting) (sym alone) ((fits, ap (session (vector w (noted (h ++ Up r n ∷ [])))) here_is), tt)) comes
              where
                here_is : site (k + 1) ≡ r
                here_is = ap (λ i. let x : Site = record { 0 = i } in x) (sym (eqb-true r.0 (k + 1) c))

                up : session (vector w (noted (h ++ Up r n ∷ []))) (site (k + 1)) ≡ n
                up = session_is ∙ ap (λ b. if b then n else session (vector w (noted h)) (site (k + 1))) c

                last : last_session (noted (h ++ Up r n ∷ [])) (site (k + 1)) ≡ n
                last = lasts ∙ ap (λ b. if b then n else last_session (noted h) (site (k + 1))) c

                before : last_session (noted h) (site (k + 1)) < n
                before = subst (λ z. last_session (noted h) z < n) (sym here_is) more

                alone : sent w from letter first k clock (noted (h ++ Up r n ∷ [])) ask (Up r n) ≡ welcome ∷ []
                alone = new_is true c ∙ ap (λ ls. welcome ∷ ls) (left_is ∙ ap its (none (is_up w (noted (h ++ Up r n ∷ [])) (site (k + 1))) (is_site r (site (k + 1))) (turned true r.0 k c)))

                small : (a most : ℕ) → a < 1 + most → nat_le a most ≡ true
                small a most z = grind (arith, z)

                least : (a most : ℕ) → a ≡ 0 → nat_le a most ≡ true
                least a most z = grind (arith, z)

                few : nat_le (rows.next_number w (noted (h ++ Up r n ∷ [])) r) (length w.programs * (w.restarts + 1)) ≡ true
                few = elim (next_ours w k (noted (h ++ Up r n ∷ [])) r) [
                  | inl zero_is ↦ least (rows.next_number w risen r) (length w.programs * (w.restarts + 1)) zero_is
                  | inr found ↦ small (rows.next_number w risen r) (length w.programs * (w.restarts + 1)) (known_txn w (record { 0 = rows.next_number w risen r }) found.1.ours.known).1
                ]

                fits : is_of_sequencer w (letters.Welcome (vector w (noted (h ++ Up r n ∷ []))) (rows.next_number w (noted (h ++ Up r n ∷ [])) r)) ≡ true
                fits = and_from (knows_vector w (vector w risen)) (nat_le (rows.next_number w risen r) (length w.programs * (w.restarts + 1))) (is_same (length (vector w risen)) w.sites (long_now h (Up r n) ask (known, more) notes mid)) few

                comes : IsTold w (noted (h ++ Up r n ∷ [])) k s → Comes w (noted (h ++ Up r n ∷ [])) k s (notes ++ sent w from letter first k clock (noted (h ++ Up r n ∷ [])) ask (Up r n))
                comes t = record {
                  comes = ap (λ ls. to_come s.session s.vector (notes ++ ls)) alone ∙ one_more s.session s.vector notes welcome (is_same (session (vector w risen) r) s.session meant);
                  welcomed = inr (first_behind (site (k + 1)) s.session (last_session (noted h) (site (k + 1))) notes (sent w from letter first k clock risen ask (Up r n)) (let a = up in let b = t.told in let m = before in omega (arith, a, b, m)) mid.past
                      (subst (WelcomeFirst (site (k + 1)) s.session) (sym alone) (inl (meant, t.told))));
                }
                  where
                    meant : session (vector w (noted (h ++ Up r n ∷ []))) r ≡ s.session
                    meant = ap (session (vector w risen)) (sym here_is) ∙ t.told
            go false c =
                whole h (Up r n) ask (known, more) notes mid (let z = same in let y = last in let x = mid.most in omega (arith, x, y, z)) (let z = last in omega (arith, z))
                (subst (AllByRecursion Fitting) (sym (new_is false c ∙ left_is)) (its_fit c (others (site (k + 1)))))
                (λ t. told_one h (Up r n) ask (known, more) notes mid l
                (new_is false c ∙ left_is ∙ ap its (both (is_up w risen (site (k + 1))) (is_site r (site (k + 1))) (ap (nat_lt 0) t.told ∙ positive s.session some) (turned false r.0 k c)))
                (is_same (session (vector w risen) (site (k + 1))) s.session t.told) refl (mid.comes (record { up = t.up; told = sym same ∙ t.told })))
              where
                same : session (vector w (noted (h ++ Up r n ∷ []))) (site (k + 1)) ≡ session (vector w (noted h)) (site (k + 1))
                same = session_is ∙ ap (λ b. if b then n else session (vector w (noted h)) (site (k + 1))) c

                last : last_session (noted (h ++ Up r n ∷ [])) (site (k + 1)) ≡ last_session (noted h) (site (k + 1))
                last = lasts ∙ ap (λ b. if b then n else last_session (noted h) (site (k + 1))) c

      -- each entry
      pub entries_keep : EntriesKeep w from letter first k clock Mid
      entries_keep h (Down r) ask placed goes why notes mid = falls h r ask why notes mid
      entries_keep h (Up r n) ask placed goes why notes mid = rises h r n ask why.0 why.1 notes mid
      entries_keep h (Read t x r) ask placed goes why notes mid = still h (Read t x r) ask why notes mid refl refl (tt, tt)
      entries_keep h (Commit t request applied) ask placed goes why notes mid = still h (Commit t request applied) ask why notes mid refl refl (λ r. ((λ there. tt), tt))
      entries_keep h (Abort t cause act) ask placed goes why notes mid = still h (Abort t cause act) ask why notes mid refl refl (λ r. tt)
      entries_keep h other ask placed goes why notes mid = still h other ask why notes mid refl refl tt

      -- copies that are sent for
      mute_copies : (p : List Noted) (due : List Copying) → AllByRecursion (λ (out : Out). out.0 ≡ k + 2 → IsMute out.2) (map (rows.copy_out (vector w p)) due)
      mute_copies p [] = tt
      mute_copies p (c ∷ due) = ((λ to. tt), mute_copies p due)

      copies_most : (p : List Noted) (due : List Copying) → session (vector w p) (site (k + 1)) ≤ last_session p (site (k + 1)) → AllByRecursion (λ (out : Out). out.0 ≡ k + 2 → out.1 ≤ last_session p (site (k + 1))) (map (rows.copy_out (vector w p)) due)
      copies_most p [] most = tt
      copies_most p (c ∷ due) most = ((λ to. subst (λ z. session (vector w p) z ≤ last_session p (site (k + 1))) (sym (place_is c.source k to)) most), copies_most p due most)

      pub copies_keep : CopiesKeep w from letter first k clock Mid
      copies_keep p due notes mid = record {
        long = mid.long;
        most = mid.most;
        past = all_append (λ (l : Letter). l.to ≤ last_session p (site (k + 1))) notes new mid.past (all_sent (λ (l : Letter). l.to ≤ last_session p (site (k + 1))) (k + 2) 0 clock outs (copies_most p due mid.most));
        fits = all_append Fitting notes new mid.fits (all_weaken (λ (l : Letter). IsMute l.message) Fitting new mute_fits mute);
        comes = λ t. kept (mid.comes t);
      }
        where
          outs : List Out
          outs = map (rows.copy_out (vector w p)) due

          new : List Letter
          new = letters_to (k + 2) 0 clock outs

          mute : AreMute (letters_to (k + 2) 0 clock (map (rows.copy_out (vector w p)) due))
          mute = all_sent (λ (l : Letter). IsMute l.message) (k + 2) 0 clock outs (mute_copies p due)

          kept : Comes w p k s notes → Comes w p k s (notes ++ copied w from letter first k clock p due)
          kept c = record {
            comes = comes_on s.session s.vector notes new ∙ mute_comes s.session (to_come s.session s.vector notes) new mute ∙ c.comes;
            welcomed = elim c.welcomed [ inl a ↦ inl a | inr a ↦ inr (first_on (site (k + 1)) s.session notes new a) ];
          }
