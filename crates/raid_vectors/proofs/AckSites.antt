-- A site sends an Ack for each Apply that it hears, so its step keeps the Acks coming.
use Rattle.std.proofs.Common.{◌≡◌, ◌≢◌, ◌⊎◌, inl, inr, ℕ, ℤ, zero, suc, ◌+◌, ◌-◌, ◌<◌, ◌≤◌, ◌==◌, nat_lt, nat_le, Bool, true, false, not, ◌&&◌, ◌||◌, List, [], ◌∷◌, ◌++◌, find, fold, length, map, option_map, Option, Some, None, if◌then◌else◌, arith, sym, subst, ap, ◌∙◌, refl, append-nil}
use Rattle.std.specs.Prelude.{slice_get}
use Rattle.std.specs.List.{AllByRecursion, list_any}
use Rattle.std.specs.Option.{option_map_or}
use Rattle.std.proofs.lemmas.Bool.{and_from, and_parts, eqb-true, true≢false}
use Rattle.std.proofs.lemmas.List.Folds.{list_any-append}
use Rattle.raid_base.specs.declared.names.Txn.{Txn}
use Rattle.raid_base.specs.declared.names.Item.{Item}
use Rattle.raid_base.specs.declared.names.Site.{Site}
use Rattle.raid_base.specs.declared.entry.Entry.TheVariants.{Commit, Ack}
use Rattle.raid_base.specs.declared.entry.Noted.{Noted}
use Rattle.raid_base.specs.Names.{is_txn, is_site}
use Rattle.raid_base.specs.Sites.{session, site}
use Rattle.raid_workload.specs.declared.workload.Workload.{Workload}
use Rattle.raid_rules.specs.Entries.{is_commit_of}
use Rattle.raid_rules.specs.History.{noted, has_committed}
use Rattle.raid_rules.specs.Sessions.{owes, last_session}
use Rattle.raid_rules.proofs.Push.{same_txn}
use Rattle.raid_legal.specs.Seen.{vector}
use Rattle.raid_message.specs.declared.letter.Message.{Message}
use Rattle.raid_message.specs.declared.letter.Message.TheVariants as letters
use Rattle.raid_message.specs.declared.letter.Letter.{Letter}
use Rattle.raid_message.specs.declared.letter.Pick.{Pick}
use Rattle.raid_steps.specs.State.{Out, Turn, Sequencer, Running, Phase, asking, preparing, sent, SiteState, opened, tell, with_state}
use Rattle.raid_steps.specs.Fits.{knows_site, knows_txn, is_of_sequencer, is_to_sequencer}
use Rattle.raid_steps.specs.Copies.{staged_of, apply}
use Rattle.raid_steps.specs.Programs.{ask_commit, ask_commits}
use Rattle.raid_steps.specs.Sequencer as seq
use Rattle.raid_steps.specs.Sequencer.{so_far, place, is_hello, finish, hear_sequencer}
use Rattle.raid_steps.specs.Site as rows
use Rattle.raid_steps.specs.World.{World, link, run, open_world}
use Rattle.raid_sessions.proofs.Agreed.{told_follows}
use Rattle.raid_sessions.proofs.Mail.{letter_of, letters_to}
use Rattle.raid_sessions.proofs.Lists.{is_same, same_self}
use Rattle.raid_sessions.proofs.Site.{SiteStep, site_step}
use Rattle.raid_sessions.proofs.Site as steps
use Rattle.raid_asks.proofs.Facts.{or_left, or_right, or_parts}
use Rattle.raid_asks.proofs.Notes.{letters_append}
use Rattle.raid_letters.specs.Says.{NoteSays, was_applied}
use Rattle.raid_letters.proofs.Runs.{QueueSays}
use Rattle.raid_staged.specs.Staged.{is_staged, ApplyStaged}
use Rattle.raid_versions.proofs.Owed.{Known}
use Rattle.raid_versions.proofs.SiteFacts.{Applying, applying, at_any, committed_known}
use Rattle.raid_vectors.specs.Vectors.{IsTold}
use Rattle.raid_vectors.specs.Acks.{applies, acks, is_to_apply, is_acked, OwesWhatComes, AcksCome}
use Rattle.raid_vectors.proofs.Runs.{known_at, most_at, some_at}

acked_on : (m : ℕ) (t : Txn) (xs ys : List Letter) → is_acked m t xs ≡ true → is_acked m t (xs ++ ys) ≡ true
acked_on m t xs ys q = list_any-append (λ (l : Letter). l.from == m && acks t l.message) xs ys ∙ or_left (is_acked m t xs) (is_acked m t ys) q

acked_new : (m : ℕ) (t : Txn) (xs ys : List Letter) → is_acked m t ys ≡ true → is_acked m t (xs ++ ys) ≡ true
acked_new m t xs ys q = list_any-append (λ (l : Letter). l.from == m && acks t l.message) xs ys ∙ or_right (is_acked m t xs) (is_acked m t ys) q

-- an Ack that was told stays told
module _ (m clock : ℕ) (t : Txn) where
  abbrev HasAck : List Out → Type 0
  HasAck outs = is_acked m t (letters_to 1 m clock outs) ≡ true

  ack_on : (outs more : List Out) → HasAck outs → HasAck (outs ++ more)
  ack_on outs more q = ap (is_acked m t) (letters_append 1 m clock outs more) ∙ acked_on m t (letters_to 1 m clock outs) (letters_to 1 m clock more) q

  one_commit : (turn : Turn SiteState) (r : Running) (phase : Phase) → HasAck turn.outs → HasAck (ask_commit turn r phase).outs
  one_commit turn r (asking k x q) a = a
  one_commit turn r (preparing reads writes []) a = ack_on turn.outs _ a
  one_commit turn r (preparing reads writes (s ∷ ss)) a = a
  one_commit turn r sent a = a

  commits : (rs : List Running) (turn : Turn SiteState) → HasAck turn.outs → HasAck (fold (λ now r. ask_commit now r r.phase) turn rs).outs
  commits [] turn a = a
  commits (r ∷ rs) turn a = commits rs (ask_commit turn r r.phase) (one_commit turn r r.phase a)

  told_ack : HasAck ((1, 0, letters.Ack t) ∷ [])
  told_ack = or_left (m == m && is_txn t t) false (and_from (m == m) (is_txn t t) (same_self m) (same_self t.0))

-- a site that hears an Apply of what it has staged
module _ (w : Workload) (s : SiteState) (letter : Letter) (t : Txn) (number clock : ℕ) (up : s.up ≡ true) (meant : (letter.to == s.session) ≡ true) (is : letter.message ≡ letters.Apply t number) (known : knows_txn w t ≡ true) (staged : is_staged t s ≡ true) where
  found_in : (es : List (Txn × List (Item × ℤ))) → list_any (λ e. is_txn t e.0) es ≡ true → (ps : List (Item × ℤ)) × (option_map (λ e. e.1) (find (λ e. is_txn t e.0) es) ≡ Some ps)
  found_in [] q = absurd (true≢false (sym q))
  found_in (e ∷ es) q = go (is_txn t e.0) q (found_in es)
    where
      go : (b : Bool) → (b || list_any (λ e. is_txn t e.0) es) ≡ true → (list_any (λ e. is_txn t e.0) es ≡ true → (ps : List (Item × ℤ)) × (option_map (λ e. e.1) (find (λ e. is_txn t e.0) es) ≡ Some ps)) → (ps : List (Item × ℤ)) × (option_map (λ e. e.1) (if b then Some e else find (λ e. is_txn t e.0) es) ≡ Some ps)
      go true q rest = (e.1, refl)
      go false q rest = rest q

  heard_is : rows.hear_site w s 1 letter ≡ ask_commits (rows.apply_row (opened s) t number)
  heard_is =
      ap (λ b. if b then rows.hear_up w s 1 letter else rows.hear_down s 1 letter) up
      ∙ ap (λ b. if b then rows.hear_sequencer w s letter else opened s) meant
      ∙ ap (λ m. rows.hear_if (is_of_sequencer w m && rows.fits_here w s m) s (rows.sequencer_row w (opened s) m)) is
      ∙ ap (λ b. rows.hear_if b s (rows.apply_row (opened s) t number)) (and_from (knows_txn w t) (is_staged t s) known staged)

  sends_ack : is_acked s.session t (letters_to 1 s.session clock (rows.hear_site w s 1 letter).outs) ≡ true
  sends_ack = subst (λ (turn : Turn SiteState). is_acked s.session t (letters_to 1 s.session clock turn.outs) ≡ true) (sym heard_is) (go (staged_of s t) (found_in s.staged staged).1)
    where
      go : (o : Option (List (Item × ℤ))) → o ≡ Some (found_in s.staged staged).0 → is_acked s.session t (letters_to 1 s.session clock (ask_commits (option_map_or (λ ps. tell (with_state (opened s) (apply s t number ps)) (letters.Ack t)) o (opened s))).outs) ≡ true
      go None q = absurd (cc q)
      go (Some ps) q = commits s.session clock t s.running (tell (with_state (opened s) (apply s t number ps)) (letters.Ack t)) (told_ack s.session clock t)

module _ (w : Workload) (world : World) (known : Known w world) (from clock : ℕ) (letter : Letter) (rest : List Letter) (k : ℕ) (s : SiteState) (at : slice_get world.servers.sites k ≡ Some s) where
  abbrev p : List Noted
  p = noted world.servers.sequencer.history

  abbrev notes : List Letter
  notes = link world.links (k + 2) 1

  abbrev asks : List Letter
  asks = link world.links 1 (k + 2)

  module _ (front : link world.links (k + 2) from ≡ letter ∷ rest) where
    notes_are : from ≡ 1 → link world.links (k + 2) 1 ≡ letter ∷ rest
    notes_are of = ap (link world.links (k + 2)) (sym of) ∙ front

    -- what the letter tells to apply is of a known transaction, and staged
    module _ (told : IsTold w (noted world.servers.sequencer.history) k s) (of : from ≡ 1) (meant : (letter.to == s.session) ≡ true) (t : Txn) (number : ℕ) (is : letter.message ≡ letters.Apply t number) where
      said : was_applied (noted world.servers.sequencer.history) t (site (k + 1)) number ≡ true
      said = subst (NoteSays w p (site (k + 1)) letter.to) is (subst (λ z. NoteSays w p (site z) letter.to letter.message) (let e : k + 2 - 1 ≡ k + 1 = omega arith in e) (subst (QueueSays w p (k + 2) 1) (notes_are of) (known.says.says (k + 2) 1)).0)

      txn_known : knows_txn w t ≡ true
      txn_known =
          let a = applying p t (site (k + 1)) number said in
          committed_known w world.servers.sequencer.history known.says.reached.placed t (at_any (is_commit_of t) p number (Commit t a.request a.applied) a.at (same_self t.0))

      last_is : last_session (noted world.servers.sequencer.history) (site (k + 1)) ≡ s.session
      last_is = (let a = most_at w world known k s at in let b = told_follows w world known.says.reached k s at in let c = told.told in omega (arith, a, b, c))

      is_ready : is_staged t s ≡ true
      is_ready = subst (ApplyStaged s) is ((subst (AllByRecursion (λ (l : Letter). (l.to == s.session) ≡ true → ApplyStaged s l.message)) (notes_are of) (known.staged.applies k s at told.up last_is)).0 meant)

      answered : is_acked s.session t (letters_to 1 s.session clock (rows.hear_site w s from letter).outs) ≡ true
      answered = subst (λ f. is_acked s.session t (letters_to 1 s.session clock (rows.hear_site w s f letter).outs) ≡ true) (sym of) (sends_ack w s letter t number clock told.up meant is txn_known is_ready)

    -- the site's step
    pub site_owes : (IsTold w (noted world.servers.sequencer.history) k s → OwesWhatComes (noted world.servers.sequencer.history) k s (link world.links 1 (k + 2)) (link world.links (k + 2) 1)) → IsTold w (noted world.servers.sequencer.history) k (rows.hear_site w s from letter).state →
        OwesWhatComes (noted world.servers.sequencer.history) k (rows.hear_site w s from letter).state (link world.links 1 (k + 2) ++ letters_to 1 (rows.hear_site w s from letter).state.session clock (rows.hear_site w s from letter).outs) (if from == 1 then rest else link world.links (k + 2) 1)
    site_owes old told = go (site_step w s from letter)
      where
        go : SiteStep s from letter (rows.hear_site w s from letter) →
            OwesWhatComes (noted world.servers.sequencer.history) k (rows.hear_site w s from letter).state (link world.links 1 (k + 2) ++ letters_to 1 (rows.hear_site w s from letter).state.session clock (rows.hear_site w s from letter).outs) (if from == 1 then rest else link world.links (k + 2) 1)
        go (steps.stops x) = absurd (true≢false (sym told.up ∙ x.after))
        go (steps.returns x) = absurd (let a = most_at w world known k s at in let b = told_follows w world known.says.reached k s at in let c = told.told in let d = x.session in omega (arith, a, b, c, d))
        go (steps.stays x) = λ t o. subst (λ m. (is_to_apply m t (if from == 1 then rest else link world.links (k + 2) 1) || is_acked m t (link world.links 1 (k + 2) ++ letters_to 1 m clock (rows.hear_site w s from letter).outs)) ≡ true) (sym x.1) (by t (or_parts (is_to_apply s.session t notes) (is_acked s.session t asks) (old was t o)))
          where
            was : IsTold w (noted world.servers.sequencer.history) k s
            was = record { up = sym x.0 ∙ told.up; told = told.told ∙ x.1 }

            left : List Letter
            left = if from == 1 then rest else link world.links (k + 2) 1

            more : List Letter
            more = letters_to 1 s.session clock (rows.hear_site w s from letter).outs

            front_acks : (t : Txn) → from ≡ 1 → (letter.to == s.session && applies t letter.message) ≡ true → is_acked s.session t (link world.links 1 (k + 2) ++ letters_to 1 s.session clock (rows.hear_site w s from letter).outs) ≡ true
            front_acks t of both = acked_new s.session t asks more (by_message letter.message refl (and_parts (letter.to == s.session) (applies t letter.message) both).1)
              where
                by_message : (m : Message) → letter.message ≡ m → applies t m ≡ true → is_acked s.session t (letters_to 1 s.session clock (rows.hear_site w s from letter).outs) ≡ true
                by_message (letters.Apply u number) is same = subst (λ z. is_acked s.session z (letters_to 1 s.session clock (rows.hear_site w s from letter).outs) ≡ true) (same_txn u t same) (answered was of (and_parts (letter.to == s.session) (applies t letter.message) both).0 u number is)
                by_message other is same = absurd (true≢false (sym same))

            heard : (t : Txn) → is_to_apply s.session t (link world.links (k + 2) 1) ≡ true → (b : Bool) → (from == 1) ≡ b → (is_to_apply s.session t (if b then rest else link world.links (k + 2) 1) || is_acked s.session t (link world.links 1 (k + 2) ++ letters_to 1 s.session clock (rows.hear_site w s from letter).outs)) ≡ true
            heard t a false q = or_left (is_to_apply s.session t notes) (is_acked s.session t (asks ++ more)) a
            heard t a true q = elim (or_parts (letter.to == s.session && applies t letter.message) (is_to_apply s.session t rest) (sym (ap (is_to_apply s.session t) (notes_are (eqb-true from 1 q))) ∙ a)) [
              | inl first ↦ or_right (is_to_apply s.session t rest) (is_acked s.session t (asks ++ more)) (front_acks t (eqb-true from 1 q) first)
              | inr behind ↦ or_left (is_to_apply s.session t rest) (is_acked s.session t (asks ++ more)) behind
            ]

            by : (t : Txn) → (is_to_apply s.session t (link world.links (k + 2) 1) ≡ true) ⊎ (is_acked s.session t (link world.links 1 (k + 2)) ≡ true) →
                (is_to_apply s.session t (if from == 1 then rest else link world.links (k + 2) 1) || is_acked s.session t (link world.links 1 (k + 2) ++ letters_to 1 s.session clock (rows.hear_site w s from letter).outs)) ≡ true
            by t (inl a) = heard t a (from == 1) refl
            by t (inr a) = or_right (is_to_apply s.session t left) (is_acked s.session t (asks ++ more)) (acked_on s.session t asks more a)
