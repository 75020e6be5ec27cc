-- The sequencer's step, whole: it keeps copies cared for.
use Rattle.std.proofs.Common.{◌≡◌, ◌⊎◌, inl, inr, ℕ, zero, suc, ◌+◌, ◌≤◌, ◌==◌, nat_lt, Bool, true, false, ◌&&◌, ◌||◌, List, [], ◌∷◌, ◌++◌, fold, if◌then◌else◌, arith, sym, subst, ap, ◌∙◌, refl}
use Rattle.std.specs.Prelude.{⊤}
use Rattle.std.specs.List.{AllByRecursion}
use Rattle.std.proofs.lemmas.Bool.{and_parts, and_from, eqb-true, true≢false}
use Rattle.raid_base.specs.declared.names.Item.{Item}
use Rattle.raid_base.specs.declared.names.Site.{Site}
use Rattle.raid_base.specs.declared.entry.Noted.{Noted}
use Rattle.raid_base.specs.Names.{is_item, is_site}
use Rattle.raid_base.specs.Sites.{session, site}
use Rattle.raid_workload.specs.declared.workload.Workload.{Workload}
use Rattle.raid_rules.specs.History.{noted, ends}
use Rattle.raid_legal.specs.Seen.{vector}
use Rattle.raid_message.specs.declared.letter.Message.{Message}
use Rattle.raid_message.specs.declared.letter.Message.TheVariants as letters
use Rattle.raid_message.specs.declared.letter.Letter.{Letter}
use Rattle.raid_copier.proofs.Renewed.{turned}
use Rattle.raid_placed.proofs.Heard.{Fine}
use Rattle.raid_sessions.proofs.Lists.{all_weaken, is_same, same_self, within}
use Rattle.raid_sessions.proofs.Mail.{AreSquare, set_square}
use Rattle.raid_sessions.proofs.Reached.{from_below}
use Rattle.raid_steps.specs.State.{Out, Turn, Sequencer, Copying, opened}
use Rattle.raid_steps.specs.Fits.{knows_site, is_to_sequencer}
use Rattle.raid_steps.specs.Sequencer as rows
use Rattle.raid_steps.specs.Sequencer.{so_far, settle, finish, is_hello, hear_sequencer}
use Rattle.raid_steps.specs.World.{World, link, set_link, post}
use Rattle.raid_steps.proofs.Parts.{number_known}
use Rattle.raid_versions.proofs.Owed.{Known}
use Rattle.raid_settled.specs.Settled.{tells, tells_copy, are_cared_for, Stands, UnderWay, CopiesAreCaredFor}
use Rattle.raid_settled.proofs.Cared.{sent_cared}
use Rattle.raid_settled.proofs.Finish.{send_ways}
use Rattle.raid_settled.proofs.Links.{or_right, letter_grows, letter_left, IsIts, was_asked, was_brought, was_told}
use Rattle.raid_settled.proofs.Sequencer.{Now, Ways, more_grow, settle_ways, row_ways, fallen_ways, copied_ways, IsOther}
use Rattle.raid_settled.proofs.Sites.{tells_is}

-- a message tells of a renewed copy or not
other_or : (m : Message) → IsOther m ⊎ ((x : Item) × ((v : ℕ) × (m ≡ letters.CopyDone x v)))
other_or (letters.CopyDone x v) = inr (x, (v, refl))
other_or other = inl tt

module _ (w : Workload) (state : World) (known : Known w state) (care : CopiesAreCaredFor w state) (from clock : ℕ) (letter : Letter) (rest : List Letter) (front : link state.links 1 from ≡ letter ∷ rest) where
  abbrev before : Sequencer
  before = state.servers.sequencer

  abbrev p : List Noted
  p = noted state.servers.sequencer.history

  abbrev now : Site → ℕ
  now s = session (vector w p) s

  abbrev taken : List (List (List Letter))
  taken = set_link state.links 1 from rest

  -- what the sequencer has come to, with what it sent
  abbrev pub Cares : Turn Sequencer → Type 0
  Cares turn =
      AllByRecursion (UnderWay w (so_far turn) state.servers.sites (fold (post 1 0 clock) (set_link state.links 1 from rest) turn.outs)) turn.state.copying
      × (are_cared_for w (so_far turn) turn.state.copying ≡ true)

  square : AreSquare (w.sites + 2) taken
  square = set_square (w.sites + 2) state.links 1 from rest known.says.reached.square

  fine : Fine w (opened before)
  fine = (known.says.reached.placed, known.says.reached.quiet)

  -- the letter tells that the copy was renewed
  abbrev Tells : Copying → Type 0
  Tells c = (c.target.0 + 1 ≡ from) × (tells_copy (now c.target) c letter ≡ true)

  -- so what isn't told of has its letter still
  left : (c : Copying) → UnderWay w p state.servers.sites state.links c → UnderWay w p state.servers.sites taken c ⊎ Tells c
  left c way = elim (letter_left state.servers.sites state.links 1 from (now c.source) (now c.target) c letter rest front way.letter) [ inl still ↦ inl (record { stands = way.stands; letter = still }) | inr its ↦ inr (of its) ]
    where
      of : IsIts 1 from (now c.source) (now c.target) c letter → Tells c
      of (was_asked e f h) = absurd (let some = (within w.sites c.source.0 way.stands.source_known).0 in omega (arith, e, some))
      of (was_brought e f h) = absurd (let some = (within w.sites c.target.0 way.stands.target_known).0 in omega (arith, e, some))
      of (was_told e f h) = (f, h)

  -- where none of some copies is told of
  stay : (Q : Copying → Type 0) → ((c : Copying) → Stands w p c → Q c → Tells c → ⊥) → Ways w state.servers.sites taken clock Q (opened before)
  stay Q none =
      all_weaken (UnderWay w p state.servers.sites state.links) (λ c. Q c → UnderWay w p state.servers.sites taken c) before.copying
      (λ c way asked. elim (left c way) [ inl still ↦ still | inr told ↦ absurd (none c way.stands asked told) ]) care.under_way

  -- nothing happens
  none_heard : ((c : Copying) → Stands w p c → Tells c → ⊥) → Cares (opened before)
  none_heard none = (all_weaken (λ (c : Copying). ⊤ → UnderWay w p state.servers.sites taken c) (UnderWay w p state.servers.sites taken) before.copying (λ c way. way tt) (stay (λ c. ⊤) (λ c stands any. none c stands)), care.cared_for)

  -- what follows a row
  finished : (turn : Turn Sequencer) → Ways w state.servers.sites taken clock (λ c. ⊤) turn → Cares (finish w before turn)
  finished turn ways = counted (nat_lt (ends p) (ends (so_far settled)))
    where
      settled : Turn Sequencer
      settled = settle w turn

      sent : Turn Sequencer
      sent = rows.send_copies w settled

      all : Ways w state.servers.sites taken clock (λ c. ⊤) sent
      all = send_ways w state.servers.sites taken clock square settled (settle_ways w state.servers.sites taken clock (λ c. ⊤) turn ways)

      more : (outs : List Out) → Cares (let turn : Turn Sequencer = record { state = sent.state; outs = sent.outs ++ outs } in turn)
      more outs = (
        all_weaken (λ (c : Copying). ⊤ → UnderWay w (so_far sent) state.servers.sites (Now w state.servers.sites taken clock sent.outs) c) (UnderWay w (so_far sent) state.servers.sites (Now w state.servers.sites taken clock (sent.outs ++ outs))) sent.state.copying
            (λ c way. record { stands = (way tt).stands; letter = letter_grows state.servers.sites (Now w state.servers.sites taken clock sent.outs) (Now w state.servers.sites taken clock (sent.outs ++ outs)) (session (vector w (so_far sent)) c.source) (session (vector w (so_far sent)) c.target) c (more_grow w state.servers.sites taken clock sent.outs outs) (way tt).letter }) all,
        sent_cared w (so_far settled) settled.state.copying,
      )

      counted : (b : Bool) → Cares (let turn : Turn Sequencer = record { state = sent.state; outs = sent.outs ++ (if b then (0, 0, letters.Ends (ends (so_far sent))) ∷ [] else []) } in turn)
      counted b = more (if b then (0, 0, letters.Ends (ends (so_far sent))) ∷ [] else [])

  -- the monitor is heard
  no_site : (c : Copying) → from ≤ 1 → Stands w p c → Tells c → ⊥
  no_site c few stands tells = (let some = (within w.sites c.target.0 stands.target_known).0 in let is = tells.0 in omega (arith, few, some, is))

  down_heard : from ≤ 1 → (m : Message) → Cares (rows.hear_down w before m)
  down_heard few (letters.Down s n) = go (knows_site w s) refl
    where
      go : (b : Bool) → knows_site w s ≡ b → Cares (if b then finish w before (rows.down_row w (opened before) s n) else opened before)
      go true is = finished (rows.down_row w (opened before) s n) (fallen_ways w state.servers.sites taken clock (λ c. ⊤) (opened before) s n is (stay (λ c. ⊤) (λ c stands any. no_site c few stands)))
      go false is = none_heard (λ c. no_site c few)
  down_heard few other = none_heard (λ c. no_site c few)

  -- a site is heard
  module _ (k : ℕ) (of : from ≡ suc (suc k)) where
    here_known : knows_site w (site (k + 1)) ≡ true
    here_known = number_known w k (let below = from_below (w.sites + 2) state.links 1 from letter rest known.says.reached.square front in omega (arith, below, of))

    target_is : (c : Copying) → Tells c → site (k + 1) ≡ c.target
    target_is c tells = ap site (let is = tells.0 in let e : k + 1 ≡ c.target.0 = omega (arith, is, of) in e)

    told_parts : (c : Copying) → Tells c → ((letter.from == now c.target) ≡ true) × (tells c.item letter.message ≡ true)
    told_parts c told = and_parts (letter.from == now c.target) (tells c.item letter.message) told.1

    row : (IsOther letter.message) ⊎ ((x : Item) × ((v : ℕ) × (letter.message ≡ letters.CopyDone x v))) → Ways w state.servers.sites taken clock (λ c. ⊤) (rows.site_row w (opened before) (site (k + 1)) letter.from letter.message)
    row (inl other) = row_ways w state.servers.sites taken clock (λ c. ⊤) (opened before) (site (k + 1)) letter.from letter.message other fine here_known (stay (λ c. ⊤) (λ c stands any told. none (tells_is c.item letter.message (told_parts c told).1)))
      where
        none : {x : Item} → (v : ℕ) × (letter.message ≡ letters.CopyDone x v) → ⊥
        none q = subst IsOther q.1 other
    row (inr (x, (v, is))) =
        subst (λ m. Ways w state.servers.sites taken clock (λ c. ⊤) (rows.site_row w (opened before) (site (k + 1)) letter.from m)) (sym is)
        (copied_ways w state.servers.sites taken clock (opened before) (site (k + 1)) x v (stay (λ c. (is_site (site (k + 1)) c.target && is_item x c.item) ≡ false) off))
      where
        off : (c : Copying) → Stands w p c → (is_site (site (k + 1)) c.target && is_item x c.item) ≡ false → Tells c → ⊥
        off c stands apart told = true≢false (sym (and_from (is_site (site (k + 1)) c.target) (is_item x c.item) mine (turned x.0 c.item.0 true (subst (λ m. tells c.item m ≡ true) is (told_parts c told).1))) ∙ apart)
          where
            mine : is_site (site (k + 1)) c.target ≡ true
            mine = subst (λ z. is_site z c.target ≡ true) (sym (target_is c told)) (same_self c.target.0)

    heard : (b : Bool) → ((is_hello letter.message || letter.from == session (vector w p) (site (k + 1))) && is_to_sequencer w letter.message) ≡ b →
        Cares (if b then finish w before (rows.site_row w (opened before) (site (k + 1)) letter.from letter.message) else opened before)
    heard true q = finished (rows.site_row w (opened before) (site (k + 1)) letter.from letter.message) (row (other_or letter.message))
    heard false q = none_heard off
      where
        off : (c : Copying) → Stands w p c → Tells c → ⊥
        off c stands told = true≢false (sym (and_from _ _ (or_right (is_hello letter.message) _ (is_same letter.from (session (vector w p) (site (k + 1))) in_session)) fits) ∙ q)
          where
            in_session : letter.from ≡ session (vector w p) (site (k + 1))
            in_session = eqb-true letter.from (now c.target) (told_parts c told).0 ∙ ap now (sym (target_is c told))

            message : (v : ℕ) × (letter.message ≡ letters.CopyDone c.item v)
            message = tells_is c.item letter.message (told_parts c told).1

            fits : is_to_sequencer w letter.message ≡ true
            fits = subst (λ m. is_to_sequencer w m ≡ true) (sym message.1) stands.item_known

  sequencer_hears : (f : ℕ) → from ≡ f → Cares (hear_sequencer w before f letter)
  sequencer_hears zero of = down_heard (omega (arith, of)) letter.message
  sequencer_hears (suc zero) of = none_heard (λ c. no_site c (omega (arith, of)))
  sequencer_hears (suc (suc k)) of = heard k of ((is_hello letter.message || letter.from == session (vector w p) (site (k + 1))) && is_to_sequencer w letter.message) refl

  pub sequencer_cares : Cares (hear_sequencer w state.servers.sequencer from letter)
  sequencer_cares = sequencer_hears from refl
