-- The sequencer's step, up to the copies that are due, keeps what is under way.
use Rattle.std.proofs.Common.{◌≡◌, ℕ, zero, suc, ◌==◌, nat_le, Bool, true, false, not, ◌&&◌, List, ◌++◌, fold, Option, Some, None, if◌then◌else◌, sym, subst, refl}
use Rattle.std.specs.Prelude.{⊤}
use Rattle.std.specs.List.{AllByRecursion}
use Rattle.std.specs.Option.{option_map_or}
use Rattle.std.proofs.lemmas.List.Sums.{fold-append}
use Rattle.raid_base.specs.declared.names.Txn.{Txn}
use Rattle.raid_base.specs.declared.names.Item.{Item}
use Rattle.raid_base.specs.declared.names.Site.{Site}
use Rattle.raid_base.specs.declared.request.Request.{Request}
use Rattle.raid_base.specs.declared.entry.Act.TheVariants as acts
use Rattle.raid_base.specs.declared.entry.Cause.{Cause}
use Rattle.raid_base.specs.declared.entry.Cause.TheVariants as causes
use Rattle.raid_base.specs.declared.entry.Entry.{Entry}
use Rattle.raid_base.specs.declared.entry.Entry.TheVariants.{Begin, Wait, Commit, Abort, Ack, SwitchOn, SwitchEnd, Down, Up, Clear}
use Rattle.raid_base.specs.declared.entry.Noted.{Noted}
use Rattle.raid_base.specs.declared.verdict.Verdict.{Verdict}
use Rattle.raid_base.specs.declared.verdict.Verdict.TheVariants as verdicts
use Rattle.raid_base.specs.Names.{is_item, is_site}
use Rattle.raid_base.specs.Sites.{session}
use Rattle.raid_workload.specs.declared.workload.Workload.{Workload}
use Rattle.raid_workload.specs.Parts.{home}
use Rattle.raid_rules.specs.History.{stamp, is_waiting, version}
use Rattle.raid_rules.specs.Sessions.{source_for, owes}
use Rattle.raid_rules.specs.Verdicts.{reading, writing}
use Rattle.raid_rules.proofs.Push.{noted_push}
use Rattle.raid_legal.specs.Seen.{vector, is_up, is_locked, sources}
use Rattle.raid_legal.specs.InForce.{verdict}
use Rattle.raid_legal.specs.Answers.{served, answer_read, answer_commit, answered, decided, closes_waits, site_refusal}
use Rattle.raid_legal.specs.Forced.{forced}
use Rattle.raid_legal.specs.Legal.{is_free, may_begin}
use Rattle.raid_legal.proofs.Left.{Compels, forced_compels}
use Rattle.raid_message.specs.declared.letter.Message.{Message}
use Rattle.raid_message.specs.declared.letter.Message.TheVariants as letters
use Rattle.raid_message.specs.declared.letter.Letter.{Letter}
use Rattle.raid_placed.proofs.Heard.{Fine, leave_fine}
use Rattle.raid_serial.proofs.Facts.{some_is, none_is}
use Rattle.raid_sessions.proofs.Lists.{not_false}
use Rattle.raid_steps.specs.State.{Out, Turn, Sequencer, Copying, SiteState}
use Rattle.raid_steps.specs.Fits.{knows_site}
use Rattle.raid_steps.specs.Sequencer as rows
use Rattle.raid_steps.specs.Sequencer.{so_far, place, place_if, settle_from, settle, ends_copying}
use Rattle.raid_steps.specs.World.{post}
use Rattle.raid_settled.specs.Settled.{UnderWay}
use Rattle.raid_settled.proofs.Entries.{Lets, way_on}
use Rattle.raid_settled.proofs.Links.{Grows, posts_grow}
use Rattle.raid_settled.proofs.Renewed.{all_kept}

-- an entry that moves no site, and unlocks no copy by itself
abbrev pub IsCalm : Entry → Type 0
IsCalm (Down s) = ⊥
IsCalm (Up s n) = ⊥
IsCalm (Clear s x v) = ⊥
IsCalm other = ⊤

-- the message tells of no renewed copy
abbrev pub IsOther : Message → Type 0
IsOther (letters.CopyDone x v) = ⊥
IsOther other = ⊤

module _ (w : Workload) where
  calm_lets : (p : List Noted) (c : Copying) (e : Entry) → IsCalm e → Lets w p c e
  calm_lets p c (Down s) calm = absurd calm
  calm_lets p c (Up s n) calm = absurd calm
  calm_lets p c (Clear s x v) calm = absurd calm
  calm_lets p c other calm = tt

  compelled_calm : (p : List Noted) (e : Entry) → Compels w p e → IsCalm e
  compelled_calm p (Abort t cause act) c = tt
  compelled_calm p (Commit t request applied) c = tt
  compelled_calm p (SwitchOn k kind method) c = tt
  compelled_calm p (SwitchEnd k) c = tt
  compelled_calm p other c = absurd c

  served_calm : (t : Txn) (x : Item) (o : Option Site) (v : Verdict) → IsCalm (served t x o v)
  served_calm t x None v = tt
  served_calm t x (Some s) (verdicts.Reject why) = tt
  served_calm t x (Some s) verdicts.Wait = tt
  served_calm t x (Some s) verdicts.Grant = tt

  waits_calm : (t : Txn) (request : Request) (a b : Bool) (e : Entry) → (if a then None else if b then Some (Abort t causes.Deadlock (acts.Commit request)) else Some (Wait t request)) ≡ Some e → IsCalm e
  waits_calm t request true b e q = absurd (none_is e q)
  waits_calm t request false true e q = subst IsCalm (some_is _ e q) tt
  waits_calm t request false false e q = subst IsCalm (some_is _ e q) tt

  answered_calm : (p : List Noted) (t : Txn) (request : Request) (o : Option Cause) (e : Entry) → answered w p t request o ≡ Some e → IsCalm e
  answered_calm p t request (Some why) e q = subst IsCalm (some_is _ e q) tt
  answered_calm p t request None e q = decides (verdict w p (writing t (stamp p t) request.writes)) q
    where
      decides : (v : Verdict) → decided w p t request v ≡ Some e → IsCalm e
      decides (verdicts.Reject why) q = subst IsCalm (some_is _ e q) tt
      decides verdicts.Grant q = subst IsCalm (some_is _ e q) tt
      decides verdicts.Wait q = waits_calm t request (is_waiting p t) (closes_waits w p t request) e q

  module _ (sites : List SiteState) (base : List (List (List Letter))) (clock : ℕ) where
    abbrev pub Now : List Out → List (List (List Letter))
    Now outs = fold (post 1 0 clock) base outs

    abbrev pub Way : Turn Sequencer → Copying → Type 0
    Way turn c = UnderWay w (so_far turn) sites (Now turn.outs) c

    pub more_grow : (outs more : List Out) → Grows (Now outs) (Now (outs ++ more))
    more_grow outs more = subst (Grows (Now outs)) (sym (fold-append (post 1 0 clock) base outs more)) (posts_grow 1 0 clock more (Now outs))

    module _ (Q : Copying → Type 0) where
      -- those that are under way, of which so much is asked
      abbrev pub Ways : Turn Sequencer → Type 0
      Ways turn = AllByRecursion (λ (c : Copying). Q c → Way turn c) turn.state.copying

      pub place_ways : (ask : ℕ) (turn : Turn Sequencer) (e : Entry) → ((c : Copying) → Q c → Lets w (so_far turn) c e) → Ways turn → Ways (place w ask turn e)
      place_ways ask turn e lets all =
          all_kept (λ (c : Copying). Q c → Way turn c) (λ (c : Copying). Q c → Way (place w ask turn e) c) (λ c. not (ends_copying e c)) turn.state.copying each all
        where
          after : Turn Sequencer
          after = place w ask turn e

          each : (c : Copying) → (Q c → Way turn c) → not (ends_copying e c) ≡ true → Q c → Way (place w ask turn e) c
          each c old keeps asked =
              subst (λ p. UnderWay w p sites (Now (place w ask turn e).outs) c) (sym (noted_push turn.state.history e))
              (way_on w (so_far turn) e c (lets c asked) (not_false (ends_copying e c) keeps) sites (Now turn.outs) (Now (place w ask turn e).outs)
              (more_grow turn.outs (rows.sends w (so_far (place w ask turn e)) ask e)) (old asked))

      calm_ways : (ask : ℕ) (turn : Turn Sequencer) (e : Entry) → IsCalm e → Ways turn → Ways (place w ask turn e)
      calm_ways ask turn e calm all = place_ways ask turn e (λ c asked. calm_lets (so_far turn) c e calm) all

      settle_from_ways : (i : ℕ) (turn : Turn Sequencer) → Ways turn → Ways (settle_from w i turn)
      settle_from_ways zero turn all = all
      settle_from_ways (suc i) turn all = go (forced w (so_far turn)) refl (λ e. settle_from_ways i (place w 0 turn e))
        where
          go : (o : Option Entry) → forced w (so_far turn) ≡ o → ((e : Entry) → Ways (place w 0 turn e) → Ways (settle_from w i (place w 0 turn e))) → Ways (option_map_or (λ e. settle_from w i (place w 0 turn e)) o turn)
          go None q rest = all
          go (Some e) q rest = rest e (calm_ways 0 turn e (compelled_calm (so_far turn) e (forced_compels w (so_far turn) e q)) all)

      pub settle_ways : (turn : Turn Sequencer) → Ways turn → Ways (settle w turn)
      settle_ways turn all = settle_from_ways _ turn all

      down_ways : (turn : Turn Sequencer) (s : Site) → knows_site w s ≡ true → Ways turn → Ways (place w 0 turn (Down s))
      down_ways turn s known all = place_ways 0 turn (Down s) (λ c asked. known) all

      if_ways : (ask : ℕ) (turn : Turn Sequencer) (o : Option Entry) → ((e : Entry) → o ≡ Some e → IsCalm e) → Ways turn → Ways (place_if w ask turn o)
      if_ways ask turn None calm all = all
      if_ways ask turn (Some e) calm all = calm_ways ask turn e (calm e refl) all

      when_ways : (turn : Turn Sequencer) (b : Bool) (e : Entry) → ((c : Copying) → Q c → Lets w (so_far turn) c e) → Ways turn → Ways (place_if w 0 turn (if b then Some e else None))
      when_ways turn true e lets all = place_ways 0 turn e lets all
      when_ways turn false e lets all = all

      free_ways : (ask : ℕ) (turn : Turn Sequencer) (t : Txn) (o : Option Entry) → ((e : Entry) → o ≡ Some e → IsCalm e) → Ways turn → Ways (rows.free_row w ask turn t o)
      free_ways ask turn t o calm all = step (is_free (so_far turn) t)
        where
          step : (b : Bool) → Ways (if b then place_if w ask turn o else turn)
          step true = if_ways ask turn o calm all
          step false = all

      hello_ways : (turn : Turn Sequencer) (s : Site) (n : ℕ) → Fine w turn → knows_site w s ≡ true → Ways turn → Ways (rows.hello_row w turn s n)
      hello_ways turn s n fine known all = again (nat_le n (rows.announced up s))
        where
          left : (b : Bool) → Ways (if b then settle w (place w 0 turn (Down s)) else turn)
          left true = settle_ways (place w 0 turn (Down s)) (down_ways turn s known all)
          left false = all

          up : Turn Sequencer
          up = place w 0 (rows.leave w turn s) (Up s n)

          up_ways : Ways (place w 0 (rows.leave w turn s) (Up s n))
          up_ways = place_ways 0 (rows.leave w turn s) (Up s n) (λ c asked. (known, (leave_fine w turn s fine).1)) (left (is_up w (so_far turn) s))

          again : (b : Bool) → Ways (if b then place w 0 (settle w (place w 0 (rows.leave w turn s) (Up s n))) (Down s) else place w 0 (rows.leave w turn s) (Up s n))
          again true = down_ways (settle w (place w 0 (rows.leave w turn s) (Up s n))) s known (settle_ways (place w 0 (rows.leave w turn s) (Up s n)) up_ways)
          again false = up_ways

      pub row_ways : (turn : Turn Sequencer) (s : Site) (n : ℕ) (m : Message) → IsOther m → Fine w turn → knows_site w s ≡ true → Ways turn → Ways (rows.site_row w turn s n m)
      row_ways turn s n letters.Hello other fine known all = hello_ways turn s n fine known all
      row_ways turn s n (letters.Begin t) other fine known all = when_ways turn (may_begin w (so_far turn) t) (Begin t (home w t)) (λ c asked. tt) all
      row_ways turn s n (letters.ReadAsk t ask x) other fine known all =
          free_ways ask turn t (Some (answer_read w (so_far turn) t x)) (λ e r. subst IsCalm (some_is _ e r) (served_calm t x (source_for (sources w (so_far turn) x) (home w t)) (verdict w (so_far turn) (reading t (stamp (so_far turn) t) x)))) all
      row_ways turn s n (letters.CommitAsk t request) other fine known all = free_ways 0 turn t (answer_commit w (so_far turn) t request) (λ e r. answered_calm (so_far turn) t request (site_refusal w (so_far turn) request) e r) all
      row_ways turn s n (letters.EndAsk t cause reads) other fine known all = free_ways 0 turn t (Some (Abort t cause (acts.Ended reads))) (λ e r. subst IsCalm (some_is _ e r) tt) all
      row_ways turn s n (letters.Ack t) other fine known all = when_ways turn (owes (so_far turn) s t) (Ack t s) (λ c asked. tt) all
      row_ways turn s n (letters.CopyDone x v) other fine known all = absurd other
      row_ways turn s n m other fine known all = all

      -- a stop that is announced
      pub fallen_ways : (turn : Turn Sequencer) (s : Site) (n : ℕ) → knows_site w s ≡ true → Ways turn → Ways (rows.down_row w turn s n)
      fallen_ways turn s n known all = when_ways (rows.announce turn s n) (is_up w (so_far turn) s && session (vector w (so_far turn)) s == n) (Down s) (λ c asked. known) all

    -- a renewed copy is off its way
    pub copied_ways : (turn : Turn Sequencer) (s : Site) (x : Item) (v : ℕ) → Ways (λ c. (is_site s c.target && is_item x c.item) ≡ false) turn → Ways (λ c. ⊤) (rows.copied_row w turn s x v)
    copied_ways turn s x v all =
        all_kept (λ (c : Copying). (is_site s c.target && is_item x c.item) ≡ false → Way renewed c) (λ (c : Copying). ⊤ → Way renewed c) (λ c. not (is_site s c.target && is_item x c.item)) renewed.state.copying
        (λ c old off asked. old (not_false (is_site s c.target && is_item x c.item) off))
        (when_ways (λ c. (is_site s c.target && is_item x c.item) ≡ false) turn (is_locked w (so_far turn) s x && v == version (so_far turn) x) (Clear s x v) (λ c off. off) all)
      where
        renewed : Turn Sequencer
        renewed = place_if w 0 turn (if is_locked w (so_far turn) s x && v == version (so_far turn) x then Some (Clear s x v) else None)
