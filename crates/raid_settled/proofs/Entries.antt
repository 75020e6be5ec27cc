-- One more entry leaves a copy under way, unless it takes it off its way.
use Rattle.std.proofs.Common.{◌≡◌, ℕ, zero, suc, ◌-◌, ◌≤◌, nat_lt, Bool, true, false, not, ◌&&◌, ◌||◌, List, [], ◌∷◌, length, fold, replicate, if◌then◌else◌, arith, sym, subst, ap, ◌∙◌, refl}
use Rattle.std.specs.Prelude.{⊤}
use Rattle.std.proofs.lemmas.Bool.{and_parts, and_from, true≢false}
use Rattle.raid_base.specs.declared.names.Item.{Item}
use Rattle.raid_base.specs.declared.names.Site.{Site}
use Rattle.raid_base.specs.declared.entry.Entry.{Entry}
use Rattle.raid_base.specs.declared.entry.Entry.TheVariants.{Commit, Down, Up, Clear}
use Rattle.raid_base.specs.declared.entry.Noted.{Noted}
use Rattle.raid_base.specs.Names.{is_item, is_site, has_site, holds}
use Rattle.raid_base.specs.Sites.{session}
use Rattle.raid_workload.specs.declared.workload.Workload.{Workload}
use Rattle.raid_rules.specs.History.{add, next}
use Rattle.raid_rules.specs.Sessions.{is_copy_locked, owes_for, turn_lock, turn_vector}
use Rattle.raid_rules.proofs.Push.{is_copy_locked_push, vector_push}
use Rattle.raid_legal.specs.Seen.{vector, is_up}
use Rattle.raid_message.specs.declared.letter.Letter.{Letter}
use Rattle.raid_sessions.proofs.Ledger.{session_set}
use Rattle.raid_sessions.proofs.Lists.{set_long}
use Rattle.raid_steps.specs.Fits.{knows_site}
use Rattle.raid_steps.specs.State.{Copying, SiteState}
use Rattle.raid_steps.specs.Sequencer.{ends_copying}
use Rattle.raid_letters.specs.Says.{is_held}
use Rattle.raid_letters.proofs.Sends.{same_site}
use Rattle.raid_settled.specs.Settled.{HasLetter, Stands, UnderWay}
use Rattle.raid_settled.proofs.Links.{Grows, letter_grows}

-- each site has its place in the vector
length_after : (v : List ℕ) (p : List Noted) → length (fold (λ v n. turn_vector v n.entry) v p) ≡ length v
length_after v [] = refl
length_after v (n ∷ p) = length_after (turn_vector v n.entry) p ∙ turned n.entry
  where
    turned : (e : Entry) → length (turn_vector v e) ≡ length v
    turned (Down s) = set_long v (s.0 - 1) 0
    turned (Up s n) = set_long v (s.0 - 1) n
    turned other = refl

ones : (n : ℕ) → length {A = ℕ} (replicate n 1) ≡ n
ones zero = refl
ones (suc n) = ap suc (ones n)

pub vector_long : (w : Workload) (p : List Noted) → length (vector w p) ≡ w.sites
vector_long w p = length_after (replicate w.sites 1) p ∙ ones w.sites

or_none : (a b : Bool) → (a || b) ≡ false → (a ≡ false) × (b ≡ false)
or_none false false h = (refl, refl)
or_none false true h = absurd (true≢false h)
or_none true b h = absurd (true≢false h)

turned_round : (s r : Site) → is_site r s ≡ false → is_site s r ≡ false
turned_round s r q = grind (arith, q)

-- an entry that may come: who goes down is known, who comes up is known and was down, and another copy is unlocked
abbrev pub Lets : Workload → List Noted → Copying → Entry → Type 0
Lets w p c (Down s) = knows_site w s ≡ true
Lets w p c (Up s n) = (knows_site w s ≡ true) × (is_up w p s ≡ false)
Lets w p c (Clear s x v) = (is_site s c.target && is_item x c.item) ≡ false
Lets w p c other = ⊤

module _ (w : Workload) (p : List Noted) (e : Entry) (c : Copying) (lets : Lets w p c e) (stays : ends_copying e c ≡ false) where
  abbrev q : List Noted
  q = add p e

  vector_now : vector w q ≡ turn_vector (vector w p) e
  vector_now = vector_push w.sites p (next p e)

  -- the entry is no Down of the site
  abbrev Left : Site → Entry → Type 0
  Left s (Down r) = is_site s r ≡ false
  Left s other = ⊤

  session_on : (s : Site) → knows_site w s ≡ true → 1 ≤ session (vector w p) s → Left s e → session (vector w q) s ≡ session (vector w p) s
  session_on s known up left = ap (λ v. session v s) vector_now ∙ go e lets left
    where
      rise : (b : Bool) (r : Site) (n : ℕ) → is_site s r ≡ b → is_up w p r ≡ false → (if b then n else session (vector w p) s) ≡ session (vector w p) s
      rise true r n is down = absurd (let low = subst (λ z. is_up w p z ≡ false) (same_site s r is) down in none (session (vector w p) s) up low)
        where
          none : (n : ℕ) → 1 ≤ n → nat_lt 0 n ≡ false → ⊥
          none n some low = grind (arith, some, low)
      rise false r n is down = refl

      go : (d : Entry) → Lets w p c d → Left s d → session (turn_vector (vector w p) d) s ≡ session (vector w p) s
      go (Down r) l left = session_set w (vector w p) r s 0 (vector_long w p) l known ∙ ap (λ b. if b then 0 else session (vector w p) s) left
      go (Up r n) l left = session_set w (vector w p) r s n (vector_long w p) l.0 known ∙ rise (is_site s r) r n refl l.1
      go other l left = refl

  target_left : Left c.target e
  target_left = go e stays
    where
      go : (d : Entry) → ends_copying d c ≡ false → Left c.target d
      go (Down r) h = turned_round c.target r (or_none (is_site r c.target) (is_site r c.source) h).0
      go other h = tt

  source_left : Left c.source e
  source_left = go e stays
    where
      go : (d : Entry) → ends_copying d c ≡ false → Left c.source d
      go (Down r) h = turned_round c.source r (or_none (is_site r c.target) (is_site r c.source) h).1
      go other h = tt

  lock_on : is_copy_locked p c.target c.item ≡ true → is_copy_locked q c.target c.item ≡ true
  lock_on locked = is_copy_locked_push p (next p e) c.target c.item ∙ go e lets stays
    where
      missed : (a b : Bool) → (a && b) ≡ false → (if b then not a else is_copy_locked p c.target c.item) ≡ true
      missed true true h = absurd (true≢false h)
      missed true false h = locked
      missed false true h = refl
      missed false false h = locked

      still : (b : Bool) → (is_copy_locked p c.target c.item || b) ≡ true
      still b = ap (λ a. a || b) locked

      turned : (s : Site) (x : Item) → (is_site s c.target && is_item x c.item) ≡ false → (is_site c.target s && is_item c.item x) ≡ false
      turned s x h = grind (arith, h)

      go : (d : Entry) → Lets w p c d → ends_copying d c ≡ false → turn_lock c.target c.item p (is_copy_locked p c.target c.item) d ≡ true
      go (Commit t r applied) l h = missed (has_site applied c.target) (holds c.item r.writes) h
      go (Down s) l h = still (is_site c.target s && owes_for p c.target c.item)
      go (Clear s x v) l h = and_from (is_copy_locked p c.target c.item) (not (is_site c.target s && is_item c.item x)) locked (ap not (turned s x l))
      go other l h = locked

  stands_on : Stands w p c → Stands w q c
  stands_on s = record {
    target_known = s.target_known;
    source_known = s.source_known;
    item_known = s.item_known;
    other = s.other;
    target_up = subst (λ z. 1 ≤ z) (sym (session_on c.target s.target_known s.target_up target_left)) s.target_up;
    source_up = subst (λ z. 1 ≤ z) (sym (session_on c.source s.source_known s.source_up source_left)) s.source_up;
    locked = (let both = and_parts (is_held w c.target c.item) (is_copy_locked p c.target c.item) s.locked in and_from (is_held w c.target c.item) (is_copy_locked q c.target c.item) both.0 (lock_on both.1));
  }

  pub way_on : (sites : List SiteState) (links after : List (List (List Letter))) → Grows links after → UnderWay w p sites links c → UnderWay w q sites after c
  way_on sites links after grows way = record {
    stands = stands_on way.stands;
    letter =
        subst (λ m. HasLetter sites after m (session (vector w q) c.target) c) (sym (session_on c.source way.stands.source_known way.stands.source_up source_left))
        (subst (λ n. HasLetter sites after (session (vector w p) c.source) n c) (sym (session_on c.target way.stands.target_known way.stands.target_up target_left))
        (letter_grows sites links after (session (vector w p) c.source) (session (vector w p) c.target) c grows way.letter));
  }
