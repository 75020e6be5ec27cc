-- A step of another site keeps a vote of it coming that a program awaits.
use Rattle.std.proofs.Common.{◌≡◌, ◌⊎◌, inl, inr, ℕ, ℤ, zero, suc, ◌+◌, ◌-◌, ◌<◌, ◌≤◌, ◌==◌, nat_lt, Bool, true, false, ◌&&◌, List, [], ◌∷◌, ◌++◌, length, map, Some, if◌then◌else◌, arith, sym, subst, ap, ◌∙◌, refl}
use Rattle.std.specs.Prelude.{slice_get, slice_set, slice_index_or}
use Rattle.std.specs.List.{AllByRecursion, list_any, list_all}
use Rattle.std.proofs.lemmas.Bool.{and_parts, and_from, eqb-true, true≢false}
use Rattle.raid_base.specs.declared.names.Txn.{Txn}
use Rattle.raid_base.specs.declared.names.Item.{Item}
use Rattle.raid_base.specs.declared.names.Site.{Site}
use Rattle.raid_base.specs.declared.entry.Answer.TheVariants.{Yes}
use Rattle.raid_base.specs.Names.{has_site}
use Rattle.raid_base.specs.Sites.{site}
use Rattle.raid_workload.specs.declared.workload.Workload.{Workload}
use Rattle.raid_workload.specs.declared.workload.ItemLine.{ItemLine}
use Rattle.raid_rules.specs.History.{noted}
use Rattle.raid_rules.proofs.Push.{same_txn}
use Rattle.raid_message.specs.declared.letter.Message.{Message}
use Rattle.raid_message.specs.declared.letter.Message.TheVariants as letters
use Rattle.raid_message.specs.declared.letter.Letter.{Letter}
use Rattle.raid_steps.specs.State.{Out, Turn, opened, SiteState}
use Rattle.raid_steps.specs.Copies.{holds_copy}
use Rattle.raid_steps.specs.Fits.{knows_item, knows_pairs, knows_txn}
use Rattle.raid_steps.specs.Site as rows
use Rattle.raid_steps.specs.Site.{hear_site}
use Rattle.raid_steps.specs.World.{World, link}
use Rattle.raid_sessions.proofs.Lists.{get_below, get_set, is_same, same_self, some_is}
use Rattle.raid_sessions.proofs.Mail.{same_or_not, letters_to}
use Rattle.raid_sessions.proofs.Site.{SiteStep, site_step}
use Rattle.raid_sessions.proofs.Site as steps
use Rattle.raid_moves.specs.Moves.{Says}
use Rattle.raid_moves.proofs.Steps.{asks_commits}
use Rattle.raid_moves.proofs.Swept.{said_is}
use Rattle.raid_asks.proofs.Facts.{or_parts}
use Rattle.raid_layers.proofs.AtSite.{moves_extend}
use Rattle.raid_asks.proofs.Notes.{letters_append}
use Rattle.raid_letters.specs.Says.{is_held, PeerSays, PrepareSays}
use Rattle.raid_letters.proofs.Runs.{LetterSays, QueueSays}
use Rattle.raid_versions.proofs.Owed.{Known}
use Rattle.raid_votes.specs.Votes.{asks_for, asks_vote, votes_yes, VoteComes, asked, voted, ended}
use Rattle.raid_votes.proofs.Expects.{any_on, any_new}

-- the writes that are asked to be prepared
prepare_is : (t : Txn) (m : Message) → asks_for t m ≡ true → (writes : List (Item × ℤ)) × (m ≡ letters.Prepare t writes)
prepare_is t (letters.Prepare u writes) same = (writes, ap (λ z. letters.Prepare z writes) (same_txn u t same))
prepare_is t other same = absurd (true≢false (sym same))

-- an item that some site holds is one of the workload
held_known : (w : Workload) (s : Site) (x : Item) → is_held w s x ≡ true → knows_item w x ≡ true
held_known w s x held = go w.items x.0 held
  where
    go : (lines : List ItemLine) (i : ℕ) → has_site (slice_index_or (map (λ (line : ItemLine). line.holders) lines) i []) s ≡ true → nat_lt i (length lines) ≡ true
    go [] i h = absurd (true≢false (sym h))
    go (line ∷ lines) zero h = less (length lines)
      where
        less : (n : ℕ) → nat_lt 0 (suc n) ≡ true
        less n = grind arith
    go (line ∷ lines) (suc i) h = more i (length lines) (go lines i h)
      where
        more : (a b : ℕ) → nat_lt a b ≡ true → nat_lt (suc a) (suc b) ≡ true
        more a b q = grind (arith, q)

module _ (w : Workload) (world : World) (known : Known w world) (from clock : ℕ) (letter : Letter) (rest : List Letter) (j : ℕ) (own : SiteState) (at : slice_get world.servers.sites j ≡ Some own) (front : link world.links (j + 2) from ≡ letter ∷ rest) where
  abbrev turn : Turn SiteState
  turn = hear_site w own from letter

  -- a program of the site at another place, in its session m, asked for a vote in the session n
  module _ (i m n : ℕ) (t : Txn) (fits : knows_txn w t ≡ true) (come_to : n ≤ own.session) where
    abbrev asks : List Letter
    asks = link world.links (j + 2) (i + 2)

    abbrev votes : List Letter
    votes = link world.links (i + 2) (j + 2)

    -- after the step
    abbrev Comes : Type 0
    Comes = VoteComes (slice_set world.servers.sites j (hear_site w own from letter).state) (if from == i + 2 then rest else link world.links (j + 2) (i + 2))
        (link world.links (i + 2) (j + 2) ++ letters_to (i + 2) (hear_site w own from letter).state.session clock (hear_site w own from letter).outs) m n t (site (j + 1))

    abbrev IsOver : Type 0
    IsOver = (hear_site w own from letter).state.up ≡ true → n < (hear_site w own from letter).state.session

    over : ((hear_site w own from letter).state.up ≡ true → n < (hear_site w own from letter).state.session) → Comes
    over past = ended (λ z there up. (let is = its_state z there in subst (λ (x : SiteState). n < x.session) is (past (ap (λ (x : SiteState). x.up) is ∙ up))))
      where
        its_state : (z : SiteState) → slice_get (slice_set world.servers.sites j (hear_site w own from letter).state) (j + 1 - 1) ≡ Some z → (hear_site w own from letter).state ≡ z
        its_state z there =
            some_is turn.state z (sym (get_set world.servers.sites j turn.state (get_below world.servers.sites j own at)) ∙ ap (slice_get (slice_set world.servers.sites j turn.state)) (let q : j ≡ j + 1 - 1 = omega arith in q) ∙ there)

    -- a Prepare that is heard is answered
    module _ (up : own.up ≡ true) (same : (hear_site w own from letter).state.session ≡ own.session) (of : from ≡ i + 2) (sent_in : letter.from ≡ m) (meant : letter.to ≡ own.session) (now : own.session ≡ n) (writes : List (Item × ℤ)) (is : letter.message ≡ letters.Prepare t writes) where
      says_is : PrepareSays w (site (j + 1)) (site (i + 1)) t writes
      says_is =
          let two : from ≡ suc (suc i) = omega (arith, of) in
          subst (PeerSays w (noted world.servers.sequencer.history) (site (j + 1)) (site (i + 1)) letter.from) is
          (subst (λ z. PeerSays w (noted world.servers.sequencer.history) (site z) (site (i + 1)) letter.from letter.message) (let q : j + 2 - 1 ≡ j + 1 = omega arith in q)
          (subst (λ d. LetterSays w (noted world.servers.sequencer.history) (j + 2) d letter) two (subst (QueueSays w (noted world.servers.sequencer.history) (j + 2) from) front (known.says.says (j + 2) from)).0).1)

      both_fit : (ps : List (Item × ℤ)) → AllByRecursion (λ pair. is_held w (site (j + 1)) pair.0 ≡ true) ps → (knows_pairs w ps ≡ true) × (list_all (λ p. holds_copy own p.0) ps ≡ true)
      both_fit [] held = (refl, refl)
      both_fit (p ∷ ps) held =
          let more = both_fit ps held.1 in
          (and_from (knows_item w p.0) (knows_pairs w ps) (held_known w (site (j + 1)) p.0 held.0) more.0, and_from (holds_copy own p.0) (list_all (λ p. holds_copy own p.0) ps) (known.held j own at p.0 ∙ held.0) more.1)

      heard : Says w own from letter i (letters.Prepare t writes)
      heard =
          let fit = both_fit writes says_is.held in
          record { heard = record { up = up; meant = ap (λ a. letter.to == a) (sym meant) ∙ same_self letter.to }; by = omega (arith, of); is = is; fits = and_from (knows_txn w t && knows_pairs w writes) (list_all (λ p. holds_copy own p.0) writes) (and_from (knows_txn w t) (knows_pairs w writes) fits fit.0) fit.1 }

      abbrev answered : Turn SiteState
      answered = rows.prepare_row (opened own) t writes (site (i + 1)) letter.from

      heard_is : (outs : List Out) × ((hear_site w own from letter).outs ≡ (((site (i + 1)).0 + 1, letter.from, letters.Vote t Yes) ∷ []) ++ outs)
      heard_is =
          let more = moves_extend w own from letter (asks_commits w own from letter heard.heard answered (known.says.homes j own at).ascend) in
          (more.0, ap (λ (x : Turn SiteState). x.outs) (said_is w own from letter i (letters.Prepare t writes) heard) ∙ more.1)

      its_number : (i + 1 + 1 == i + 2) ≡ true
      its_number = is_same (i + 1 + 1) (i + 2) (omega arith)

      first : list_any (votes_yes m n t) (letters_to (i + 2) own.session clock (((site (i + 1)).0 + 1, letter.from, letters.Vote t Yes) ∷ [])) ≡ true
      first = rw (its_number, now, sent_in, same_self n, same_self m, same_self t.0) refl

      voted_now : Comes
      voted_now = voted (any_new (votes_yes m n t) votes (letters_to (i + 2) turn.state.session clock turn.outs)
          (subst (λ a. list_any (votes_yes m n t) (letters_to (i + 2) a clock (hear_site w own from letter).outs) ≡ true) (sym same)
          (ap (λ os. list_any (votes_yes m n t) (letters_to (i + 2) own.session clock os)) heard_is.1
          ∙ ap (list_any (votes_yes m n t)) (letters_append (i + 2) own.session clock (((site (i + 1)).0 + 1, letter.from, letters.Vote t Yes) ∷ []) heard_is.0)
          ∙ any_on (votes_yes m n t) (letters_to (i + 2) own.session clock (((site (i + 1)).0 + 1, letter.from, letters.Vote t Yes) ∷ [])) (letters_to (i + 2) own.session clock heard_is.0) first)))

    stays_on : (hear_site w own from letter).state.up ≡ own.up → (hear_site w own from letter).state.session ≡ own.session → VoteComes world.servers.sites (link world.links (j + 2) (i + 2)) (link world.links (i + 2) (j + 2)) m n t (site (j + 1)) → Comes
    stays_on up same (voted q) = voted (any_on (votes_yes m n t) votes (letters_to (i + 2) turn.state.session clock turn.outs) q)
    stays_on up same (ended past) = over (λ on. (let l = past own (ap (slice_get world.servers.sites) (let q : j + 1 - 1 ≡ j = omega arith in q) ∙ at) (sym up ∙ on) in omega (arith, l, same)))
    stays_on up same (asked q) = taken (from == i + 2) refl
      where
        answer : from ≡ i + 2 → asks_vote m n t letter ≡ true → Comes
        answer of one =
            let both = and_parts (letter.from == m && letter.to == n) (asks_for t letter.message) one in
            let numbers = and_parts (letter.from == m) (letter.to == n) both.0 in
            let its = prepare_is t letter.message both.1 in
            go own.up refl (same_or_not own.session n) (eqb-true letter.from m numbers.0) (eqb-true letter.to n numbers.1) its.0 its.1
          where
            go : (u : Bool) → own.up ≡ u → (own.session ≡ n) ⊎ (own.session ≡ n → ⊥) → letter.from ≡ m → letter.to ≡ n → (writes : List (Item × ℤ)) → letter.message ≡ letters.Prepare t writes → Comes
            go false off c sent_in to writes is = over (λ on. absurd (true≢false (sym on ∙ up ∙ off)))
            go true on (inr other) sent_in to writes is = over (λ still. (let less : n < own.session = before n own.session come_to other in omega (arith, less, same)))
              where
                before : (a b : ℕ) → a ≤ b → (b ≡ a → ⊥) → a < b
                before a b le differ = elim (same_or_not b a) [ inl q ↦ absurd (differ q) | inr q ↦ step a b le (apart b a q) ]
                  where
                    apart : (b a : ℕ) → (b ≡ a → ⊥) → (b == a) ≡ false
                    apart b a q = not_same (b == a) refl
                      where
                        not_same : (c : Bool) → (b == a) ≡ c → c ≡ false
                        not_same true e = absurd (q (eqb-true b a e))
                        not_same false e = refl

                    step : (a b : ℕ) → a ≤ b → (b == a) ≡ false → a < b
                    step a b le q = grind (arith, le, q)
            go true on (inl now) sent_in to writes is = voted_now on same of sent_in (to ∙ sym now) now writes is

        taken : (b : Bool) → (from == i + 2) ≡ b → Comes
        taken false e = asked (subst (λ b. list_any (asks_vote m n t) (if b then rest else link world.links (j + 2) (i + 2)) ≡ true) (sym e) q)
        taken true e =
            let of = eqb-true from (i + 2) e in
            elim (or_parts (asks_vote m n t letter) (list_any (asks_vote m n t) rest) (sym (ap (list_any (asks_vote m n t)) (ap (link world.links (j + 2)) (sym of) ∙ front)) ∙ q)) [
              | inl one ↦ answer of one
              | inr more ↦ asked (subst (λ b. list_any (asks_vote m n t) (if b then rest else link world.links (j + 2) (i + 2)) ≡ true) (sym e) more)
            ]

    pub voter_step : VoteComes world.servers.sites (link world.links (j + 2) (i + 2)) (link world.links (i + 2) (j + 2)) m n t (site (j + 1)) →
        VoteComes (slice_set world.servers.sites j (hear_site w own from letter).state) (if from == i + 2 then rest else link world.links (j + 2) (i + 2))
        (link world.links (i + 2) (j + 2) ++ letters_to (i + 2) (hear_site w own from letter).state.session clock (hear_site w own from letter).outs) m n t (site (j + 1))
    voter_step before = go (site_step w own from letter)
      where
        go : SiteStep own from letter (hear_site w own from letter) → Comes
        go (steps.stops x) = over (λ on. absurd (true≢false (sym on ∙ x.after)))
        go (steps.returns x) = over (λ on. (let later = x.session in omega (arith, later, come_to)))
        go (steps.stays x) = stays_on x.0 x.1 before
