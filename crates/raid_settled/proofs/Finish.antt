-- What follows the sequencer's row: the copies that are due are under way once they are sent for, and each copy is cared for.
use Rattle.std.proofs.Common.{◌≡◌, ℕ, ◌+◌, ◌==◌, Bool, true, ◌&&◌, List, [], ◌∷◌, ◌++◌, map, filter, arith, sym, subst}
use Rattle.std.specs.Prelude.{⊤, flat_map}
use Rattle.std.specs.List.{AllByRecursion, list_any}
use Rattle.std.proofs.lemmas.Bool.{and_from}
use Rattle.std.proofs.lemmas.List.Sums.{fold-append}
use Rattle.raid_base.specs.declared.entry.Noted.{Noted}
use Rattle.raid_base.specs.Sites.{session}
use Rattle.raid_workload.specs.declared.workload.Workload.{Workload}
use Rattle.raid_workload.specs.Parts.{sites}
use Rattle.raid_legal.specs.Seen.{vector, is_up}
use Rattle.raid_message.specs.declared.letter.Letter.{Letter}
use Rattle.raid_sessions.proofs.Lists.{all_append, all_weaken, same_self, within}
use Rattle.raid_sessions.proofs.Mail.{AreSquare, posts_square, letter_of}
use Rattle.raid_steps.specs.State.{Out, Turn, Sequencer, Copying, SiteState}
use Rattle.raid_steps.specs.Sequencer as rows
use Rattle.raid_steps.specs.Sequencer.{so_far}
use Rattle.raid_steps.specs.World.{link, post}
use Rattle.raid_settled.specs.Settled.{asks_copy, asked, Stands, UnderWay}
use Rattle.raid_settled.proofs.Links.{or_left, or_right, letter_grows, sent_there}
use Rattle.raid_settled.proofs.Renewed.{sites_due}
use Rattle.raid_settled.proofs.Sequencer.{Now, Ways, more_grow}

-- what is sent for each of them is among what is sent
each_among : (P : Copying → Out → Bool) (v : List ℕ) (due : List Copying) → ((c : Copying) → P c (rows.copy_out v c) ≡ true) → AllByRecursion (λ c. list_any (P c) (map (rows.copy_out v) due) ≡ true) due
each_among P v [] own = tt
each_among P v (c ∷ due) own = (
  or_left (P c (rows.copy_out v c)) (list_any (P c) (map (rows.copy_out v) due)) (own c),
  all_weaken (λ d. list_any (P d) (map (rows.copy_out v) due) ≡ true) (λ d. list_any (P d) (map (rows.copy_out v) (c ∷ due)) ≡ true) due (λ d h. or_right (P d (rows.copy_out v c)) (list_any (P d) (map (rows.copy_out v) due)) h) (each_among P v due own),
)

both_all : {X : Type 0} (P Q R : X → Type 0) (xs : List X) → ((x : X) → P x → Q x → R x) → AllByRecursion P xs → AllByRecursion Q xs → AllByRecursion R xs
both_all P Q R [] f a b = tt
both_all P Q R (x ∷ xs) f a b = (f x a.0 b.0, both_all P Q R xs f a.1 b.1)

module _ (w : Workload) (states : List SiteState) (base : List (List (List Letter))) (clock : ℕ) (square : AreSquare (w.sites + 2) base) where
  module _ (turn : Turn Sequencer) where
    abbrev p : List Noted
    p = so_far turn

    abbrev due : List Copying
    due = flat_map (rows.copies_due w p turn.state.copying) (filter (is_up w p) (sites w))

    abbrev outs : List Out
    outs = map (rows.copy_out (vector w p)) due

    abbrev is_asked : Copying → Out → Bool
    is_asked c out = (out.0 == c.source.0 + 1) && asks_copy (session (vector w p) c.source) (session (vector w p) c.target) c (letter_of 0 clock out)

    asked_self : (c : Copying) → is_asked c (rows.copy_out (vector w p) c) ≡ true
    asked_self c =
        and_from _ _ (same_self (c.source.0 + 1)) (and_from _ _ (same_self (session (vector w p) c.source)) (and_from _ _ (same_self c.item.0) (and_from _ _ (same_self c.target.0) (same_self (session (vector w p) c.target)))))

    sent_for : (c : Copying) → Stands w p c → list_any (is_asked c) outs ≡ true → UnderWay w p states (Now w states base clock (turn.outs ++ outs)) c
    sent_for c stands h = record {
      stands = stands;
      letter = asked (subst (λ links. list_any (asks_copy (session (vector w p) c.source) (session (vector w p) c.target) c) (link links (c.source.0 + 1) 1) ≡ true) (sym (fold-append (post 1 0 clock) base turn.outs outs))
          (sent_there (w.sites + 2) 1 0 clock outs (Now w states base clock turn.outs) (c.source.0 + 1) (asks_copy (session (vector w p) c.source) (session (vector w p) c.target) c) (posts_square (w.sites + 2) 1 0 clock turn.outs base square) (omega arith)
          (let low = (within w.sites c.source.0 stands.source_known).1 in omega (arith, low)) h));
    }

    -- the copies that are due are sent for
    pub send_ways : Ways w states base clock (λ c. ⊤) turn → Ways w states base clock (λ c. ⊤) (rows.send_copies w turn)
    send_ways all =
        all_append (λ (c : Copying). ⊤ → UnderWay w p states (Now w states base clock (turn.outs ++ outs)) c) turn.state.copying due
        (all_weaken (λ (c : Copying). ⊤ → UnderWay w p states (Now w states base clock turn.outs) c) (λ (c : Copying). ⊤ → UnderWay w p states (Now w states base clock (turn.outs ++ outs)) c) turn.state.copying
        (λ c way any. record { stands = (way tt).stands; letter = letter_grows states (Now w states base clock turn.outs) (Now w states base clock (turn.outs ++ outs)) (session (vector w p) c.source) (session (vector w p) c.target) c (more_grow w states base clock turn.outs outs) (way tt).letter }) all)
        (both_all (Stands w p) (λ c. list_any (is_asked c) outs ≡ true) (λ (c : Copying). ⊤ → UnderWay w p states (Now w states base clock (turn.outs ++ outs)) c) due (λ c stands h any. sent_for c stands h)
        (sites_due w p turn.state.copying) (each_among is_asked (vector w p) due asked_self))
