-- A letter that was on its way is so after a step, unless it is the one that was taken; and what fits the workload.
use Rattle.std.proofs.Common.{◌≡◌, ◌≢◌, ◌⊎◌, inl, inr, ℕ, zero, suc, ◌+◌, ◌-◌, ◌<◌, ◌≤◌, ◌==◌, nat_lt, Bool, true, false, ◌||◌, List, [], ◌∷◌, ◌++◌, length, Some, if◌then◌else◌, arith, sym, subst, ap, ◌∙◌, refl, append-nil, append_assoc}
use Rattle.std.specs.Prelude.{slice_get, slice_set, slice_index_or, fold, count_by}
use Rattle.std.specs.List.{AllByRecursion, list_any}
use Rattle.std.proofs.lemmas.Bool.{true≢false}
use Rattle.std.proofs.lemmas.Grind.{common_steps}
use Rattle.std.proofs.lemmas.List.{length-map}
use Rattle.std.proofs.lemmas.List.Sums.{sum_by-cons}
use Rattle.raid_base.specs.declared.names.Txn.{Txn}
use Rattle.raid_base.specs.declared.names.Item.{Item}
use Rattle.raid_base.specs.declared.names.Site.{Site}
use Rattle.raid_base.specs.declared.entry.Entry.{Entry}
use Rattle.raid_base.specs.declared.entry.Entry.TheVariants.{Read}
use Rattle.raid_base.specs.declared.entry.Noted.{Noted}
use Rattle.raid_base.specs.Names.{is_txn, has_site, has_txn}
use Rattle.raid_base.specs.Sites.{site}
use Rattle.raid_workload.specs.declared.workload.ItemLine.{ItemLine}
use Rattle.raid_workload.specs.declared.workload.Workload.{Workload}
use Rattle.raid_workload.specs.Parts.{txns, placement}
use Rattle.raid_rules.specs.Entries.{is_read}
use Rattle.raid_rules.specs.History.{has_begun}
use Rattle.raid_rules.specs.Order.{is_of, IsWhole}
use Rattle.raid_rules.specs.Sessions.{last_session}
use Rattle.raid_rules.proofs.Push.{same_txn}
use Rattle.raid_message.specs.declared.letter.Letter.{Letter}
use Rattle.raid_steps.specs.State.{Out, Turn, Phase, asking, preparing, sent, Running, SiteState}
use Rattle.raid_steps.specs.Fits.{knows_txn, knows_item, knows_site}
use Rattle.raid_steps.specs.Programs.{ask_commit, ask_commits}
use Rattle.raid_steps.specs.Site.{hear_site}
use Rattle.raid_steps.specs.World.{link}
use Rattle.raid_sessions.proofs.Lists.{get_below, get_set, get_other, some_is, within}
use Rattle.raid_sessions.proofs.Mail.{AreSquare, same_or_not, letters_to, moved, moved_taken, moved_sent, moved_other, own_taken, own_left}
use Rattle.raid_asks.proofs.Facts.{or_parts, any_weaken}
use Rattle.raid_asks.proofs.Least.{known_txn}
use Rattle.raid_asks.proofs.Line.{Due}
use Rattle.raid_letters.specs.Says.{is_held}
use Rattle.raid_layers.proofs.SiteWorlds.{HomeStep, same, falls, rises, hears, home_step}
use Rattle.raid_witness.specs.Ended.{HasEnded, count_reads}
use Rattle.raid_grants.proofs.Facts.{any_on}

-- the letters on a link after a server has taken one from the front of a link, and sent some
module _ (n : ℕ) (links : List (List (List Letter))) (server from session clock : ℕ) (letter : Letter) (rest : List Letter) (outs : List Out) (square : AreSquare n links) (room : server < n) (known : from < n) (front : link links server from ≡ letter ∷ rest) where
  abbrev after : List (List (List Letter))
  after = moved links server from session clock rest outs

  pub any_moved : (c d : ℕ) → c < n → (test : Letter → Bool) → list_any test (link links c d) ≡ true → ((c ≡ server) × ((d ≡ from) × (test letter ≡ true))) ⊎ (list_any test (link after c d) ≡ true)
  any_moved c d low test q = by (same_or_not d server) (same_or_not c server)
    where
      by : (d ≡ server) ⊎ (d ≢ server) → (c ≡ server) ⊎ (c ≢ server) → ((c ≡ server) × ((d ≡ from) × (test letter ≡ true))) ⊎ (list_any test (link after c d) ≡ true)
      by (inr apart) (inr other) = inr (subst (λ ls. list_any test ls ≡ true) (sym (moved_other n links server from session clock rest outs square room c d low apart (inl other))) q)
      by (inr apart) (inl here) = at_from (same_or_not d from)
        where
          at_from : (d ≡ from) ⊎ (d ≢ from) → ((c ≡ server) × ((d ≡ from) × (test letter ≡ true))) ⊎ (list_any test (link after c d) ≡ true)
          at_from (inr other) = inr (subst (λ ls. list_any test ls ≡ true) (sym (moved_other n links server from session clock rest outs square room c d low apart (inr other))) q)
          at_from (inl of) = elim (or_parts (test letter) (list_any test rest) (subst (λ ls. list_any test ls ≡ true) (ap (λ z. link links z d) here ∙ ap (link links server) of ∙ front) q)) [
            | inl it ↦ inl (here, (of, it))
            | inr more ↦ inr (subst (λ ls. list_any test ls ≡ true) (sym (ap (λ z. link after z d) here ∙ ap (link after server) of ∙ moved_taken n links server from session clock rest outs square room known (λ e. apart (of ∙ e)))) more)
          ]
      by (inl own) (inr other) =
          inr (subst (λ ls. list_any test ls ≡ true) (sym (ap (link after c) own ∙ moved_sent n links server from session clock rest outs square room c low other)) (any_on test (link links c server) (letters_to c session clock outs) (subst (λ ls. list_any test ls ≡ true) (ap (link links c) own) q)))
      by (inl own) (inl here) = at_own (same_or_not from server)
        where
          there : link links c d ≡ link links server server
          there = ap (λ z. link links z d) here ∙ ap (link links server) own

          there_after : link after c d ≡ link after server server
          there_after = ap (λ z. link after z d) here ∙ ap (link after server) own

          at_own : (from ≡ server) ⊎ (from ≢ server) → ((c ≡ server) × ((d ≡ from) × (test letter ≡ true))) ⊎ (list_any test (link after c d) ≡ true)
          at_own (inr other) =
              inr (subst (λ ls. list_any test ls ≡ true) (sym (there_after ∙ own_left n links server from session clock rest outs square room other)) (any_on test (link links server server) (letters_to server session clock outs) (subst (λ ls. list_any test ls ≡ true) there q)))
          at_own (inl self) = elim (or_parts (test letter) (list_any test rest) (subst (λ ls. list_any test ls ≡ true) (there ∙ ap (link links server) (sym self) ∙ front) q)) [
            | inl it ↦ inl (here, (own ∙ sym self, it))
            | inr more ↦ inr (subst (λ ls. list_any test ls ≡ true) (sym (there_after ∙ own_taken n links server from session clock rest outs square room self)) (any_on test rest (letters_to server session clock outs) more))
          ]

-- a session that has ended stays so in a site's step
module _ (w : Workload) (p : List Noted) (sites : List SiteState) (j from : ℕ) (state : SiteState) (letter : Letter) (at : slice_get sites j ≡ Some state) (follows : last_session p (site (j + 1)) ≤ state.session) where
  pub ended_still : (s : Site) (n : ℕ) → knows_site w s ≡ true → n ≤ last_session p s → HasEnded sites s n → HasEnded (slice_set sites j (hear_site w state from letter).state) s n
  ended_still s n is_known past over own there up = go (same_or_not (s.0 - 1) j)
    where
      turn : Turn SiteState
      turn = hear_site w state from letter

      its : s.0 - 1 ≡ j → n ≤ state.session
      its e = (let s_is : s ≡ site (j + 1) = ap (λ i. let z : Site = record { 0 = i } in z) (let b = (within w.sites s.0 is_known).0 in omega (arith, b, e)) in let m = ap (last_session p) s_is in omega (arith, past, m, follows))

      stepped : s.0 - 1 ≡ j → HomeStep state from (hear_site w state from letter) → (hear_site w state from letter).state.up ≡ true → n < (hear_site w state from letter).state.session
      stepped e (same none is) u = subst (λ (z : SiteState). n < z.session) (sym is) (over state (ap (slice_get sites) e ∙ at) (sym (ap (λ (z : SiteState). z.up) is) ∙ u))
      stepped e (falls none down) u = absurd (true≢false (sym u ∙ down))
      stepped e (rises none next) u = (let m = its e in omega (arith, m, next))
      stepped e (hears u_before some up_same session_same) u = (let m = over state (ap (slice_get sites) e ∙ at) u_before in omega (arith, m, session_same))

      go : (s.0 - 1 ≡ j) ⊎ (s.0 - 1 ≢ j) → n < own.session
      go (inl e) =
          let is : turn.state ≡ own = some_is turn.state own (sym (get_set sites j turn.state (get_below sites j state at)) ∙ ap (slice_get (slice_set sites j turn.state)) (sym e) ∙ there) in
          subst (λ (z : SiteState). n < z.session) is (stepped e (home_step w state from letter) (ap (λ (z : SiteState). z.up) is ∙ up))
      go (inr e) = over own (sym (get_other sites j (s.0 - 1) turn.state e) ∙ there) up

-- asking for commits sends what was sent, and more
pub commits_extend : (turn : Turn SiteState) → (more : List Out) × ((ask_commits turn).outs ≡ turn.outs ++ more)
commits_extend turn = all turn.state.running turn
  where
    one : (now : Turn SiteState) (r : Running) (phase : Phase) → (more : List Out) × ((ask_commit now r phase).outs ≡ now.outs ++ more)
    one now r (asking k x q) = ([], sym (append-nil now.outs))
    one now r (preparing reads writes []) = (_, refl)
    one now r (preparing reads writes (s ∷ ss)) = ([], sym (append-nil now.outs))
    one now r sent = ([], sym (append-nil now.outs))

    all : (rs : List Running) (now : Turn SiteState) → (more : List Out) × ((fold (λ now r. ask_commit now r r.phase) now rs).outs ≡ now.outs ++ more)
    all [] now = ([], sym (append-nil now.outs))
    all (r ∷ rs) now =
        let a = one now r r.phase in
        let b = all rs (ask_commit now r r.phase) in
        (a.0 ++ b.0, b.1 ∙ ap (λ outs. outs ++ b.0) a.1 ∙ append_assoc now.outs a.0 b.0)

-- who hasn't begun has read nothing
module _ (p : List Noted) (t : Txn) (whole : IsWhole p) (new : has_begun p t ≡ false) where
  pub none_read : count_reads p t ≡ 0
  none_read = counted (λ n. is_read (λ u x s. is_txn t u) n.entry) p (unread (list_any (λ n. is_read (λ u x s. is_txn t u) n.entry) p) refl)
    where
      counted : (test : Noted → Bool) (ns : List Noted) → list_any test ns ≡ false → count_by test ns ≡ 0
      counted test [] q = refl
      counted test (n ∷ ns) q = go (test n) refl q (counted test ns)
        where
          go : (b : Bool) → test n ≡ b → (b || list_any test ns) ≡ false → (list_any test ns ≡ false → count_by test ns ≡ 0) → count_by test (n ∷ ns) ≡ 0
          go true e q rest = absurd (true≢false q)
          go false e q rest = (let more = sum_by-cons (λ n. if test n then 1 else 0) n ns ∙ ap (λ b. (if b then 1 else 0) + count_by test ns) e in let none = rest q in omega (arith, more, none))

      its : (e : Entry) → is_read (λ u x s. is_txn t u) e ≡ true → is_of t e ≡ true
      its (Read u x s) h = h
      its other h = absurd (true≢false (sym h))

      unread : (b : Bool) → list_any (λ n. is_read (λ u x s. is_txn t u) n.entry) p ≡ b → list_any (λ n. is_read (λ u x s. is_txn t u) n.entry) p ≡ false
      unread true q = absurd (true≢false (sym (whole t (any_weaken (λ n. is_read (λ u x s. is_txn t u) n.entry) (λ n. is_of t n.entry) (λ n h. its n.entry h) p q)) ∙ new))
      unread false q = q

-- of a Begin that is due, the transaction hasn't begun
pub due_new : (w : Workload) (here : Site) (p : List Noted) (bs : List Txn) (t : Txn) → AllByRecursion (Due w here p) bs → has_txn bs t ≡ true → has_begun p t ≡ false
due_new w here p [] t a has = absurd (true≢false (sym has))
due_new w here p (u ∷ bs) t a has = elim (or_parts (u.0 == t.0) (has_txn bs t) has) [
  | inl it ↦ subst (λ z. has_begun p z ≡ false) (same_txn u t it) a.0.fresh
  | inr more ↦ due_new w here p bs t a.1 more
]

-- the workload has what it has
pub txn_known : (w : Workload) (t : Txn) → has_txn (txns w) t ≡ true → knows_txn w t ≡ true
txn_known w t of = (let low = (known_txn w t of).0 in let high = (known_txn w t of).1 in grind (arith, common_steps, low, high))

pub item_known : (w : Workload) (s : Site) (x : Item) → is_held w s x ≡ true → knows_item w x ≡ true
item_known w s x held = positive x.0 (length w.items) (let b = within_items (placement w) x.0 held in let l = length-map w.items (λ (line : ItemLine). line.holders) in omega (arith, b, l))
  where
    positive : (a b : ℕ) → a < b → nat_lt a b ≡ true
    positive a b q = grind (arith, q)

    within_items : (rows : List (List Site)) (i : ℕ) → has_site (slice_index_or rows i []) s ≡ true → i < length rows
    within_items [] i h = absurd (true≢false (sym h))
    within_items (row ∷ rows) zero h = omega arith
    within_items (row ∷ rows) (suc i) h = (let b = within_items rows i h in omega (arith, b))
