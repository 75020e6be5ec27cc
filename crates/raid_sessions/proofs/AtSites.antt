-- A site's step keeps what holds of reached worlds.
use Rattle.std.proofs.Common.{◌≡◌, ◌≢◌, ◌⊎◌, inl, inr, ℕ, ◌+◌, ◌<◌, ◌≤◌, ◌==◌, Bool, true, false, List, [], ◌∷◌, ◌++◌, Some, if◌then◌else◌, arith, sym, subst, ap, ◌∙◌, refl, append-nil}
use Rattle.std.proofs.lemmas.Bool.{and_parts, eqb-true, true≢false}
use Rattle.std.specs.Prelude.{slice_get, slice_set}
use Rattle.std.specs.List.{AllByRecursion, list_all}
use Rattle.raid_base.specs.declared.names.Site.{Site}
use Rattle.raid_base.specs.Sites.{site}
use Rattle.raid_workload.specs.declared.workload.Workload.{Workload}
use Rattle.raid_rules.specs.History.{noted, ends}
use Rattle.raid_message.specs.declared.letter.Message.TheVariants as letters
use Rattle.raid_message.specs.declared.letter.Letter.{Letter}
use Rattle.raid_steps.specs.State.{Out, Turn, SiteState}
use Rattle.raid_steps.specs.Fits.{knows_site}
use Rattle.raid_steps.specs.Sequencer.{is_hello}
use Rattle.raid_steps.specs.Site.{hear_site}
use Rattle.raid_steps.specs.World.{Servers, link}
use Rattle.raid_steps.proofs.Parts.{number_known}
use Rattle.raid_sessions.proofs.Events.{orders, orders_cons}
use Rattle.raid_sessions.proofs.Heard.{IsFair}
use Rattle.raid_sessions.proofs.Holds.{last_of, IsHeard, IsSpoken, LivesIn, Holds, lives_is}
use Rattle.raid_sessions.proofs.Speech.{IsSpeech, Speaks, site_speaks}
use Rattle.raid_sessions.proofs.Timely.{ArePast}
use Rattle.raid_sessions.proofs.Lists.{all_append, all_weaken, get_below, get_set, get_other, set_long, some_is}
use Rattle.raid_sessions.proofs.Mail.{same_or_not, letter_of, letters_to, moved, moved_square, moved_taken, moved_sent, moved_other, own_taken, own_left}
use Rattle.raid_sessions.proofs.Sessions.{chain_le, chain_none, said, IsOf, Sent, sent_append, no_hello, Lives, lives_on, lives_less, lives_again}
use Rattle.raid_sessions.proofs.Site.{is_plain, SiteStep, stops, returns, stays}

module _ (w : Workload) (s : Servers) (links : List (List (List Letter))) (k from clock : ℕ) (letter : Letter) (rest : List Letter) (known : from < w.sites + 2) (front : link links (k + 2) from ≡ letter ∷ rest) (holds : Holds w s links)
    (state : SiteState) (here : slice_get s.sites k ≡ Some state) where
  inside : k + 2 < w.sites + 2
  inside = (let q = get_below s.sites k state here in let l = holds.long in omega (arith, q, l))

  -- every site has a session
  some_session : 1 ≤ state.session
  some_session =
      let mine = holds.each k state here in
      let most = chain_le _ _ state.session mine.opened in
      let least = (holds.ledger.accounts (site (k + 1)) (known_site k inside)).first in
      omega (arith, most, least)
    where
      known_site : (k : ℕ) → k + 2 < w.sites + 2 → knows_site w (site (k + 1)) ≡ true
      known_site k below = number_known w k below

  -- what the site knows of the letter
  pub site_spoke : Speaks w (last_of s.sequencer.history) (site (k + 1)) state.session (hear_site w state from letter)
  site_spoke = site_speaks w (last_of s.sequencer.history) (site (k + 1)) state letter (holds.vectors k state here) from known
      (λ q. (subst (AllByRecursion (IsHeard w (last_of s.sequencer.history) k)) (ap (link links (k + 2)) (sym q) ∙ front) (holds.heard k below)).0)
      (λ j q. (subst (AllByRecursion (IsSpoken w (last_of s.sequencer.history) k j)) (ap (link links (k + 2)) (sym q) ∙ front) (holds.spoken k j below (omega (arith, q, known)))).0)
    where
      below : k < w.sites
      below = omega (arith, inside)

  module _ (turn : Turn SiteState) where
    abbrev pub sites_after : List SiteState
    sites_after = slice_set s.sites k turn.state

    abbrev pub links_after : List (List (List Letter))
    links_after = moved links (k + 2) from turn.state.session clock rest turn.outs

    bulletins : link links_after 1 0 ≡ link links 1 0
    bulletins = moved_other (w.sites + 2) links (k + 2) from turn.state.session clock rest turn.outs holds.square inside 1 0 (omega arith) (λ q. omega (arith, q)) (inl (λ q. omega (arith, q)))

    farewells : link links_after 0 (k + 2) ≡ link links 0 (k + 2) ++ letters_to 0 turn.state.session clock turn.outs
    farewells = moved_sent (w.sites + 2) links (k + 2) from turn.state.session clock rest turn.outs holds.square inside 0 (omega arith) (λ q. omega (arith, q))

    asks : link links_after 1 (k + 2) ≡ link links 1 (k + 2) ++ letters_to 1 turn.state.session clock turn.outs
    asks = moved_sent (w.sites + 2) links (k + 2) from turn.state.session clock rest turn.outs holds.square inside 1 (omega arith) (λ q. omega (arith, q))

    commands_taken : from ≡ 0 → link links_after (k + 2) 0 ≡ rest
    commands_taken q = ap (link links_after (k + 2)) (sym q) ∙ moved_taken (w.sites + 2) links (k + 2) from turn.state.session clock rest turn.outs holds.square inside known (λ r. omega (arith, q, r))

    commands_left : from ≢ 0 → link links_after (k + 2) 0 ≡ link links (k + 2) 0
    commands_left q = moved_other (w.sites + 2) links (k + 2) from turn.state.session clock rest turn.outs holds.square inside (k + 2) 0 inside (λ r. omega (arith, r)) (inr (λ r. q (sym r)))

    commands_were : from ≡ 0 → link links (k + 2) 0 ≡ letter ∷ rest
    commands_were q = ap (link links (k + 2)) (sym q) ∙ front

    fewer : (stop : Bool) → orders stop (link links_after (k + 2) 0) ≤ orders stop (link links (k + 2) 0)
    fewer stop = go (same_or_not from 0)
      where
        go : (from ≡ 0) ⊎ (from ≢ 0) → orders stop (link links_after (k + 2) 0) ≤ orders stop (link links (k + 2) 0)
        go (inl q) = (let a = ap (orders stop) (commands_taken q) in let b = ap (orders stop) (commands_were q) in let c = orders_cons stop letter rest in omega (arith, a, b, c))
        go (inr q) = (let a = ap (orders stop) (commands_left q) in omega (arith, a))

    abbrev L : Site → ℕ
    L = last_of s.sequencer.history

    -- what the site asks, it asks in its last session
    asked_letters : (n : ℕ) (outs : List Out) → list_all is_plain outs ≡ true → AllByRecursion (IsSpeech w L (site (k + 1)) n) outs → AllByRecursion (λ (l : Letter). IsOf n l × (n ≤ L (site (k + 1)))) (letters_to 1 n clock outs)
    asked_letters n [] plain f = tt
    asked_letters n (out ∷ outs) plain f =
        let parts = and_parts (is_plain out) (list_all is_plain outs) plain in
        go (out.0 == 1) refl (no_hello out parts.0) (asked_letters n outs parts.1 f.1)
      where
        low : is_hello out.2 ≡ false → (is_hello out.2 ≡ true) ⊎ (n ≤ L (site (k + 1))) → n ≤ L (site (k + 1))
        low plain (inl q) = absurd (true≢false (sym q ∙ plain))
        low plain (inr q) = q

        go : (b : Bool) → (out.0 == 1) ≡ b → is_hello out.2 ≡ false → AllByRecursion (λ (l : Letter). IsOf n l × (n ≤ L (site (k + 1)))) (letters_to 1 n clock outs) →
            AllByRecursion (λ (l : Letter). IsOf n l × (n ≤ L (site (k + 1)))) (if b then letter_of n clock out ∷ letters_to 1 n clock outs else letters_to 1 n clock outs)
        go true q plain rest = (((plain, refl), low plain (f.0.2 (eqb-true out.0 1 q))), rest)
        go false q plain rest = rest

    asked_in : (ls : List Letter) → AllByRecursion (λ (l : Letter). IsOf state.session l × (state.session ≤ L (site (k + 1)))) ls → Sent (L (site (k + 1))) (link links 1 (k + 2) ++ ls)
    asked_in [] a = subst (Sent (L (site (k + 1)))) (sym (append-nil (link links 1 (k + 2)))) (holds.each k state here).sent
    asked_in (l ∷ ls) a =
        let mine = holds.each k state here in
        let most = chain_le (L (site (k + 1))) (said is_hello (link links 1 (k + 2))) state.session mine.opened in
        let low = a.0.1 in
        let same : state.session ≡ L (site (k + 1)) = omega (arith, most, low) in
        sent_append (L (site (k + 1))) (link links 1 (k + 2)) (l ∷ ls) (chain_none (L (site (k + 1))) (said is_hello (link links 1 (k + 2))) state.session mine.opened low)
        (all_weaken (λ (l : Letter). IsOf state.session l × (state.session ≤ L (site (k + 1)))) (IsOf (L (site (k + 1)))) (l ∷ ls) (λ m q. (q.0.0, q.0.1 ∙ same)) a) mine.sent

    -- the site itself
    mine_after : SiteStep state from letter turn → Speaks w L (site (k + 1)) state.session turn → LivesIn w s.fired s.sequencer.history s.sequencer.announced links_after k turn.state
    mine_after (stays kept) speaks =
        lives_is w s.fired s.sequencer.history s.sequencer.announced k turn.state.up turn.state.session refl farewells asks bulletins
        (subst (λ u. Lives w k u turn.state.session s.fired s.sequencer.history s.sequencer.announced (link links_after (k + 2) 0) (link links 0 (k + 2) ++ letters_to 0 turn.state.session clock turn.outs) (link links 1 (k + 2) ++ letters_to 1 turn.state.session clock turn.outs) (link links 1 0)) (sym kept.0)
        (subst (λ n. Lives w k state.up n s.fired s.sequencer.history s.sequencer.announced (link links_after (k + 2) 0) (link links 0 (k + 2) ++ letters_to 0 n clock turn.outs) (link links 1 (k + 2) ++ letters_to 1 n clock turn.outs) (link links 1 0)) (sym kept.1)
        (lives_on w k s.fired s.sequencer.history s.sequencer.announced (link links (k + 2) 0) (link links 0 (k + 2)) (link links 1 (k + 2)) (link links 1 0) state.up state.session clock turn.outs (link links_after (k + 2) 0) (holds.each k state here) some_session kept.2 fewer (asked_in (letters_to 1 state.session clock turn.outs) (asked_letters state.session turn.outs kept.2 speaks.1)))))
    mine_after (stops t) speaks =
        let farewell : Letter = record { clock = clock; from = turn.state.session; to = 0; message = letters.Halted } in
        lives_is w s.fired s.sequencer.history s.sequencer.announced k turn.state.up turn.state.session (commands_taken t.of)
        (farewells ∙ ap (λ outs. link links 0 (k + 2) ++ letters_to 0 turn.state.session clock outs) t.outs)
        (asks ∙ ap (λ outs. link links 1 (k + 2) ++ letters_to 1 turn.state.session clock outs) t.outs ∙ append-nil (link links 1 (k + 2))) bulletins
        (subst (λ u. Lives w k u turn.state.session s.fired s.sequencer.history s.sequencer.announced rest (link links 0 (k + 2) ++ farewell ∷ []) (link links 1 (k + 2)) (link links 1 0)) (sym t.after)
        (subst (λ n. Lives w k false n s.fired s.sequencer.history s.sequencer.announced rest (link links 0 (k + 2) ++ farewell ∷ []) (link links 1 (k + 2)) (link links 1 0)) (sym t.session)
        (lives_less w k s.fired s.sequencer.history s.sequencer.announced (link links (k + 2) 0) (link links 0 (k + 2)) (link links 1 (k + 2)) (link links 1 0) state.session letter farewell rest
        (subst (λ u. Lives w k u state.session s.fired s.sequencer.history s.sequencer.announced (link links (k + 2) 0) (link links 0 (k + 2)) (link links 1 (k + 2)) (link links 1 0)) t.before (holds.each k state here))
        some_session (commands_were t.of) t.said refl t.session)))
    mine_after (returns t) speaks =
        let hello : Letter = record { clock = clock; from = turn.state.session; to = 0; message = letters.Hello } in
        lives_is w s.fired s.sequencer.history s.sequencer.announced k turn.state.up turn.state.session (commands_taken t.of)
        (farewells ∙ ap (λ outs. link links 0 (k + 2) ++ letters_to 0 turn.state.session clock outs) t.outs ∙ append-nil (link links 0 (k + 2)))
        (asks ∙ ap (λ outs. link links 1 (k + 2) ++ letters_to 1 turn.state.session clock outs) t.outs) bulletins
        (subst (λ u. Lives w k u turn.state.session s.fired s.sequencer.history s.sequencer.announced rest (link links 0 (k + 2)) (link links 1 (k + 2) ++ hello ∷ []) (link links 1 0)) (sym t.after)
        (subst (λ n. Lives w k true n s.fired s.sequencer.history s.sequencer.announced rest (link links 0 (k + 2)) (link links 1 (k + 2) ++ hello ∷ []) (link links 1 0)) (sym t.session)
        (lives_again w k s.fired s.sequencer.history s.sequencer.announced (link links (k + 2) 0) (link links 0 (k + 2)) (link links 1 (k + 2)) (link links 1 0) state.session letter hello rest
        (subst (λ u. Lives w k u state.session s.fired s.sequencer.history s.sequencer.announced (link links (k + 2) 0) (link links 0 (k + 2)) (link links 1 (k + 2)) (link links 1 0)) t.before (holds.each k state here))
        (commands_were t.of) t.said refl t.session)))

    -- another site
    others_after : (j : ℕ) (other : SiteState) → j ≢ k → slice_get s.sites j ≡ Some other → LivesIn w s.fired s.sequencer.history s.sequencer.announced links_after j other
    others_after j other differ there =
        let within : j + 2 < w.sites + 2 = (let q = get_below s.sites j other there in let l = holds.long in omega (arith, q, l)) in
        let apart : j + 2 ≢ k + 2 = (λ q. differ (omega (arith, q))) in
        lives_is w s.fired s.sequencer.history s.sequencer.announced j other.up other.session
        (moved_other (w.sites + 2) links (k + 2) from turn.state.session clock rest turn.outs holds.square inside (j + 2) 0 within (λ q. omega (arith, q)) (inl apart))
        (moved_other (w.sites + 2) links (k + 2) from turn.state.session clock rest turn.outs holds.square inside 0 (j + 2) (omega arith) apart (inl (λ q. omega (arith, q))))
        (moved_other (w.sites + 2) links (k + 2) from turn.state.session clock rest turn.outs holds.square inside 1 (j + 2) (omega arith) apart (inl (λ q. omega (arith, q))))
        bulletins (holds.each j other there)

    each_after : SiteStep state from letter turn → Speaks w L (site (k + 1)) state.session turn → (j : ℕ) (other : SiteState) → slice_get sites_after j ≡ Some other → LivesIn w s.fired s.sequencer.history s.sequencer.announced links_after j other
    each_after step speaks j other there = go (same_or_not j k)
      where
        go : (j ≡ k) ⊎ (j ≢ k) → LivesIn w s.fired s.sequencer.history s.sequencer.announced links_after j other
        go (inl q) =
            let same : turn.state ≡ other = some_is turn.state other (sym (get_set s.sites k turn.state (get_below s.sites k state here)) ∙ ap (slice_get sites_after) (sym q) ∙ there) in
            subst (λ i. LivesIn w s.fired s.sequencer.history s.sequencer.announced links_after i other) (sym q) (subst (LivesIn w s.fired s.sequencer.history s.sequencer.announced links_after k) same (mine_after step speaks))
        go (inr q) = others_after j other q (sym (get_other s.sites k j turn.state q) ∙ there)

    -- what the sequencer told the sites
    heard_after : (j : ℕ) → j < w.sites → AllByRecursion (IsHeard w L j) (link links_after (j + 2) 1)
    heard_after j below = go (same_or_not j k) (same_or_not from 1)
      where
        go : (j ≡ k) ⊎ (j ≢ k) → (from ≡ 1) ⊎ (from ≢ 1) → AllByRecursion (IsHeard w L j) (link links_after (j + 2) 1)
        go (inr q) r =
            subst (AllByRecursion (IsHeard w L j))
            (sym (moved_other (w.sites + 2) links (k + 2) from turn.state.session clock rest turn.outs holds.square inside (j + 2) 1 (omega (arith, below)) (λ e. omega (arith, e)) (inl (λ e. q (omega (arith, e)))))) (holds.heard j below)
        go (inl q) (inr r) =
            subst (AllByRecursion (IsHeard w L j))
            (sym (moved_other (w.sites + 2) links (k + 2) from turn.state.session clock rest turn.outs holds.square inside (j + 2) 1 (omega (arith, below)) (λ e. omega (arith, e)) (inr (λ e. r (sym e))))) (holds.heard j below)
        go (inl q) (inl r) =
            let place : k + 2 ≡ j + 2 = omega (arith, q) in
            let taken = ap (λ c. link links_after c 1) (sym place) ∙ ap (link links_after (k + 2)) (sym r) ∙ moved_taken (w.sites + 2) links (k + 2) from turn.state.session clock rest turn.outs holds.square inside known (λ e. omega (arith, e, r)) in
            let were = ap (λ c. link links c 1) (sym place) ∙ ap (link links (k + 2)) (sym r) ∙ front in
            subst (AllByRecursion (IsHeard w L j)) (sym taken) (subst (AllByRecursion (IsHeard w L j)) were (holds.heard j below)).1

    -- what the sites said to one another
    said_letters : (i : ℕ) (outs : List Out) → i < w.sites → AllByRecursion (IsSpeech w L (site (k + 1)) turn.state.session) outs → AllByRecursion (IsSpoken w L i k) (letters_to (i + 2) turn.state.session clock outs)
    said_letters i [] below f = tt
    said_letters i (out ∷ outs) below f = go (out.0 == i + 2) refl (said_letters i outs below f.1)
      where
        go : (b : Bool) → (out.0 == i + 2) ≡ b → AllByRecursion (IsSpoken w L i k) (letters_to (i + 2) turn.state.session clock outs) →
            AllByRecursion (IsSpoken w L i k) (if b then letter_of turn.state.session clock out ∷ letters_to (i + 2) turn.state.session clock outs else letters_to (i + 2) turn.state.session clock outs)
        go true q rest = ((f.0.0 i below (eqb-true out.0 (i + 2) q), f.0.1), rest)
        go false q rest = rest

    said_after : SiteStep state from letter turn → Speaks w L (site (k + 1)) state.session turn → (i : ℕ) → i < w.sites → AllByRecursion (IsSpoken w L i k) (letters_to (i + 2) turn.state.session clock turn.outs)
    said_after (stays kept) speaks i below = said_letters i turn.outs below (subst (λ n. AllByRecursion (IsSpeech w L (site (k + 1)) n) turn.outs) (sym kept.1) speaks.1)
    said_after (stops t) speaks i below = subst (λ outs. AllByRecursion (IsSpoken w L i k) (letters_to (i + 2) turn.state.session clock outs)) (sym t.outs) (no_word (0 == i + 2) (elsewhere 0 i (λ e. omega (arith, e))))
      where
        elsewhere : (a i : ℕ) → (a ≡ i + 2 → ⊥) → (a == i + 2) ≡ false
        elsewhere a i never = grind (arith, never)

        no_word : (b : Bool) → b ≡ false → AllByRecursion (IsSpoken w L i k) (if b then record { clock = clock; from = turn.state.session; to = 0; message = letters.Halted } ∷ [] else [])
        no_word true q = absurd (true≢false q)
        no_word false q = tt
    said_after (returns t) speaks i below = subst (λ outs. AllByRecursion (IsSpoken w L i k) (letters_to (i + 2) turn.state.session clock outs)) (sym t.outs) (no_word (1 == i + 2) (elsewhere 1 i (λ e. omega (arith, e))))
      where
        elsewhere : (a i : ℕ) → (a ≡ i + 2 → ⊥) → (a == i + 2) ≡ false
        elsewhere a i never = grind (arith, never)

        no_word : (b : Bool) → b ≡ false → AllByRecursion (IsSpoken w L i k) (if b then record { clock = clock; from = turn.state.session; to = 0; message = letters.Hello } ∷ [] else [])
        no_word true q = absurd (true≢false q)
        no_word false q = tt

    -- the link that was taken from has one less
    rest_spoken : (i j : ℕ) → i < w.sites → j < w.sites → i ≡ k → from ≡ j + 2 → AllByRecursion (IsSpoken w L i j) rest
    rest_spoken i j below below_too q r = (subst (AllByRecursion (IsSpoken w L i j)) (ap (λ x. link links (x + 2) (j + 2)) q ∙ ap (link links (k + 2)) (sym r) ∙ front) (holds.spoken i j below below_too)).1

    spoken_after : SiteStep state from letter turn → Speaks w L (site (k + 1)) state.session turn → (i j : ℕ) → i < w.sites → j < w.sites → AllByRecursion (IsSpoken w L i j) (link links_after (i + 2) (j + 2))
    spoken_after step speaks i j below below_too = go (same_or_not j k) (same_or_not i k) (same_or_not from (j + 2))
      where
        both : (base : List Letter) → AllByRecursion (IsSpoken w L i k) base → AllByRecursion (IsSpoken w L i k) (base ++ letters_to (i + 2) turn.state.session clock turn.outs)
        both base a = all_append (IsSpoken w L i k) base (letters_to (i + 2) turn.state.session clock turn.outs) a (said_after step speaks i below)

        go : (j ≡ k) ⊎ (j ≢ k) → (i ≡ k) ⊎ (i ≢ k) → (from ≡ j + 2) ⊎ (from ≢ j + 2) → AllByRecursion (IsSpoken w L i j) (link links_after (i + 2) (j + 2))
        go (inr other) (inl q) (inl r) =
            subst (AllByRecursion (IsSpoken w L i j))
            (sym (ap (λ x. link links_after (x + 2) (j + 2)) q ∙ ap (link links_after (k + 2)) (sym r) ∙ moved_taken (w.sites + 2) links (k + 2) from turn.state.session clock rest turn.outs holds.square inside known (λ e. other (omega (arith, e, r)))))
            (rest_spoken i j below below_too q r)
        go (inr other) (inl q) (inr r) =
            subst (AllByRecursion (IsSpoken w L i j))
            (sym (moved_other (w.sites + 2) links (k + 2) from turn.state.session clock rest turn.outs holds.square inside (i + 2) (j + 2) (omega (arith, below)) (λ e. other (omega (arith, e))) (inr (λ e. r (sym e))))) (holds.spoken i j below below_too)
        go (inr other) (inr q) r =
            subst (AllByRecursion (IsSpoken w L i j))
            (sym (moved_other (w.sites + 2) links (k + 2) from turn.state.session clock rest turn.outs holds.square inside (i + 2) (j + 2) (omega (arith, below)) (λ e. other (omega (arith, e))) (inl (λ e. q (omega (arith, e)))))) (holds.spoken i j below below_too)
        go (inl same) (inr q) r =
            subst (λ x. AllByRecursion (IsSpoken w L i x) (link links_after (i + 2) (x + 2))) (sym same)
            (subst (AllByRecursion (IsSpoken w L i k)) (sym (moved_sent (w.sites + 2) links (k + 2) from turn.state.session clock rest turn.outs holds.square inside (i + 2) (omega (arith, below)) (λ e. q (omega (arith, e)))))
            (both (link links (i + 2) (k + 2)) (subst (λ x. AllByRecursion (IsSpoken w L i x) (link links (i + 2) (x + 2))) same (holds.spoken i j below below_too))))
        go (inl same) (inl q) (inl r) =
            subst (λ x. AllByRecursion (IsSpoken w L i x) (link links_after (i + 2) (x + 2))) (sym same)
            (subst (λ ls. AllByRecursion (IsSpoken w L i k) ls) (sym (ap (λ x. link links_after (x + 2) (k + 2)) q ∙ own_taken (w.sites + 2) links (k + 2) from turn.state.session clock rest turn.outs holds.square inside (omega (arith, r, same)) ∙ ap (λ x. rest ++ letters_to (x + 2) turn.state.session clock turn.outs) (sym q)))
            (both rest (subst (λ x. AllByRecursion (IsSpoken w L i x) rest) same (rest_spoken i j below below_too q r))))
        go (inl same) (inl q) (inr r) =
            subst (λ x. AllByRecursion (IsSpoken w L i x) (link links_after (i + 2) (x + 2))) (sym same)
            (subst (λ ls. AllByRecursion (IsSpoken w L i k) ls) (sym (ap (λ x. link links_after (x + 2) (k + 2)) q ∙ own_left (w.sites + 2) links (k + 2) from turn.state.session clock rest turn.outs holds.square inside (λ e. r (omega (arith, e, same))) ∙ ap (λ x. link links (x + 2) (k + 2) ++ letters_to (x + 2) turn.state.session clock turn.outs) (sym q)))
            (both (link links (i + 2) (k + 2)) (subst (λ x. AllByRecursion (IsSpoken w L i x) (link links (i + 2) (x + 2))) same (holds.spoken i j below below_too))))

    vectors_after : Speaks w L (site (k + 1)) state.session turn → (j : ℕ) (other : SiteState) → slice_get sites_after j ≡ Some other → ArePast w L other.vector
    vectors_after speaks j other there = go (same_or_not j k)
      where
        go : (j ≡ k) ⊎ (j ≢ k) → ArePast w L other.vector
        go (inl q) =
            let same : turn.state ≡ other = some_is turn.state other (sym (get_set s.sites k turn.state (get_below s.sites k state here)) ∙ ap (slice_get sites_after) (sym q) ∙ there) in
            subst (λ (x : SiteState). ArePast w L x.vector) same speaks.0
        go (inr q) = holds.vectors j other (sym (get_other s.sites k j turn.state q) ∙ there)

    pub site_holds : SiteStep state from letter turn → Speaks w L (site (k + 1)) state.session turn → Holds w (record s { sites = slice_set s.sites k turn.state }) (moved links (k + 2) from turn.state.session clock rest turn.outs)
    site_holds step speaks = record {
      square = moved_square (w.sites + 2) links (k + 2) from turn.state.session clock rest turn.outs holds.square inside;
      long = set_long s.sites k turn.state ∙ holds.long;
      announced = holds.announced;
      placed = holds.placed;
      quiet = holds.quiet;
      ledger = holds.ledger;
      reached = holds.reached;
      fair = subst (AllByRecursion (λ (l : Letter). IsFair (ends (noted s.sequencer.history)) l.message))
          (sym (moved_other (w.sites + 2) links (k + 2) from turn.state.session clock rest turn.outs holds.square inside 0 1 (omega arith) (λ q. omega (arith, q)) (inl (λ q. omega (arith, q))))) holds.fair;
      heard = heard_after;
      spoken = spoken_after step speaks;
      vectors = vectors_after speaks;
      each = each_after step speaks;
    }
