-- What a site's step does to the programs that run there: which of them begin, and what holds of each that runs, and of the next to begin.
use Rattle.std.proofs.Common.{◌≡◌, ℕ, ℤ, suc, ◌+◌, ◌==◌, Bool, true, false, not, List, [], ◌∷◌, ◌++◌, map, filter, Some, if◌then◌else◌, sym, ap, subst, ◌∙◌, refl, append-nil, append_assoc}
use Rattle.std.specs.List.{AllByRecursion, list_any}
use Rattle.raid_base.specs.declared.names.Txn.{Txn}
use Rattle.raid_base.specs.declared.names.Item.{Item}
use Rattle.raid_base.specs.declared.names.Site.{Site}
use Rattle.raid_base.specs.declared.entry.Answer.TheVariants.{Yes, No}
use Rattle.raid_base.specs.Names.{is_txn}
use Rattle.raid_base.specs.Sites.{session, site}
use Rattle.raid_program.specs.Run.{put}
use Rattle.raid_workload.specs.declared.workload.Workload.{Workload}
use Rattle.raid_legal.specs.Seen.{holds_some}
use Rattle.raid_message.specs.declared.letter.Message.{Message}
use Rattle.raid_message.specs.declared.letter.Message.TheVariants as letters
use Rattle.raid_message.specs.declared.letter.Letter.{Letter}
use Rattle.raid_steps.specs.State.{Out, Turn, opened, tell, preparing, Running, SiteState}
use Rattle.raid_steps.specs.Copies.{stage}
use Rattle.raid_steps.specs.Programs as programs
use Rattle.raid_steps.specs.Site as rows
use Rattle.raid_moves.specs.Moves as parts
use Rattle.raid_moves.specs.Moves.{Ascend, Tells, comes_to, Goes, fresh, Row, next_of, passed, Move, Moves}
use Rattle.raid_moves.proofs.Places.{all_found, all_kept, all_put, ascend_put, ascend_kept}
use Rattle.raid_moves.proofs.Steps.{ascend_move, step_keeps}
use Rattle.raid_asks.specs.Way.{begun_by}

-- the transactions whose Begins the sequencer is told
abbrev pub told : List Out → List Txn
told [] = []
told (out ∷ outs) = if out.0 == 1 then begun_by out.2 ++ told outs else told outs

pub told_append : (xs ys : List Out) → told (xs ++ ys) ≡ told xs ++ told ys
told_append [] ys = refl
told_append (x ∷ xs) ys = go (x.0 == 1) (told_append xs ys)
  where
    go : (b : Bool) → told (xs ++ ys) ≡ told xs ++ told ys → (if b then begun_by x.2 ++ told (xs ++ ys) else told (xs ++ ys)) ≡ (if b then begun_by x.2 ++ told xs else told xs) ++ told ys
    go true q = ap (λ ts. begun_by x.2 ++ ts) q ∙ sym (append_assoc (begun_by x.2) (told xs) (told ys))
    go false q = q

-- Fine is what holds of a running program's transaction, Counts of the number of the one that begins next, both given the transactions whose
-- Begins were told in this step
module _ (w : Workload) (h : Site) (Fine : List Txn → Txn → Type 0) (Counts : List Txn → ℕ → Type 0) where
  pub record Keeps (ts : List Txn) (s : Site) (rs : List Running) (next : ℕ) : Type 0 where
    pub site : s ≡ h
    pub fine : AllByRecursion (λ (r : Running). Fine ts r.txn) rs
    pub counts : Counts ts next
    pub ascend : Ascend rs

  abbrev pub KeptAt : List Txn → Turn SiteState → Type 0
  KeptAt ts turn = (told turn.outs ≡ ts) × Keeps ts turn.state.site turn.state.running turn.state.next

  abbrev pub Kept : Turn SiteState → Type 0
  Kept turn = (ts : List Txn) × KeptAt ts turn

  -- what the next to begin has to keep
  abbrev pub BeginsNext : Type 0
  BeginsNext = (ts : List Txn) (s : Site) (rs : List Running) (n : ℕ) → Keeps ts s rs n → (n == 0) ≡ false →
      Keeps (ts ++ (record { 0 = n }) ∷ []) s rs (programs.following w h n) × Fine (ts ++ (record { 0 = n }) ∷ []) (record { 0 = n })

  -- and the next attempt at what was dropped
  abbrev pub BeginsAgain : Txn → Type 0
  BeginsAgain t = (s : Site) (rs : List Running) (n : ℕ) → Keeps [] s rs n → list_any (λ (r : Running). is_txn t r.txn) rs ≡ true →
      Keeps (programs.next_attempt w t ∷ []) s rs n × Fine (programs.next_attempt w t ∷ []) (programs.next_attempt w t)

  -- a program that is put, with what else is sent; one that has ended
  plus : (turn : Turn SiteState) (outs : List Out) (ts : List Txn) → told outs ≡ [] → told turn.outs ≡ ts → told (turn.outs ++ outs) ≡ ts
  plus turn outs ts q k = told_append turn.outs outs ∙ ap (λ us. told turn.outs ++ us) q ∙ append-nil (told turn.outs) ∙ k

  puts : (ts : List Txn) (s : Site) (rs : List Running) (next : ℕ) (r : Running) → Keeps ts s rs next → Fine ts r.txn → Keeps ts s (programs.put_running r rs) next
  puts ts s rs next r k f = record { site = k.site; fine = all_put (λ (r : Running). Fine ts r.txn) r rs f k.fine; counts = k.counts; ascend = ascend_put r rs k.ascend }

  without : (t : Txn) (ts : List Txn) (s : Site) (rs : List Running) (next : ℕ) → Keeps ts s rs next → Keeps ts s (filter (λ (r : Running). not (is_txn t r.txn)) rs) next
  without t ts s rs next k = record { site = k.site; fine = all_kept (λ (r : Running). Fine ts r.txn) (λ (r : Running). not (is_txn t r.txn)) rs k.fine; counts = k.counts; ascend = ascend_kept (λ (r : Running). not (is_txn t r.txn)) rs k.ascend }

  -- no Begin among what is told to a site
  unheard : (n m : ℕ) (message : Message) → begun_by message ≡ [] → told (let out : Out = (n, m, message) in out ∷ []) ≡ []
  unheard n m message q = go (n == 1)
    where
      go : (b : Bool) → (if b then begun_by message ++ [] else []) ≡ []
      go true = ap (λ us. us ++ []) q
      go false = refl

  prepared : (v : List ℕ) (t : Txn) (writes : List (Item × ℤ)) (ss : List Site) → told (map (programs.prepare_out w v t writes) ss) ≡ []
  prepared v t writes [] = refl
  prepared v t writes (s ∷ ss) = go (s.0 + 1 == 1) (prepared v t writes ss)
    where
      go : (b : Bool) → told (map (programs.prepare_out w v t writes) ss) ≡ [] → (if b then told (map (programs.prepare_out w v t writes) ss) else told (map (programs.prepare_out w v t writes) ss)) ≡ []
      go true q = q
      go false q = q

  -- a program goes on
  goes : (ts : List Txn) (turn : Turn SiteState) (r : Running) {after : Turn SiteState} → KeptAt ts turn → Fine ts r.txn → Goes w turn r after → KeptAt ts after
  goes ts turn r k f (parts.reads_next x e) = (plus turn _ ts refl k.0, puts ts turn.state.site turn.state.running turn.state.next _ k.1 f)
  goes ts turn r k f (parts.prepares e) = (plus turn _ ts (prepared turn.state.vector r.txn writes voters) k.0, own (holds_some w writes turn.state.site))
    where
      writes : List (Item × ℤ)
      writes = (comes_to w r).writes

      voters : List Site
      voters = programs.voters w turn.state writes

      now : Running
      now = record r { phase = preparing (comes_to w r).reads writes voters }

      own : (b : Bool) → (let s : SiteState = (if b then record (turn.state) { staged = stage r.txn (programs.held_by w turn.state.site writes) turn.state.staged } else turn.state) in Keeps ts s.site (programs.put_running now s.running) s.next)
      own true = puts ts turn.state.site turn.state.running turn.state.next now k.1 f
      own false = puts ts turn.state.site turn.state.running turn.state.next now k.1 f
  goes ts turn r k f (parts.stops e) = (plus turn _ ts refl k.0, puts ts turn.state.site turn.state.running turn.state.next _ k.1 f)
  goes ts turn r k f (parts.overflows e) = (plus turn _ ts refl k.0, puts ts turn.state.site turn.state.running turn.state.next _ k.1 f)

  begins : (ts : List Txn) (turn : Turn SiteState) (t : Txn) {after : Turn SiteState} → told turn.outs ≡ ts → Keeps (ts ++ t ∷ []) turn.state.site turn.state.running turn.state.next → Fine (ts ++ t ∷ []) t → parts.Begins w turn t after → Kept after
  begins ts turn t q k f g = (ts ++ t ∷ [], goes (ts ++ t ∷ []) (tell turn (letters.Begin t)) (fresh t) (told_append turn.outs _ ∙ ap (λ us. us ++ t ∷ []) q, k) f g)

  -- a program that runs is fine
  found : (ts : List Txn) (turn : Turn SiteState) (t : Txn) (r : Running) → KeptAt ts turn → programs.running_of turn.state t ≡ Some r → Fine ts r.txn
  found ts turn t r k q = all_found (λ (r : Running). Fine ts r.txn) (λ (r : Running). is_txn t r.txn) turn.state.running r k.1.fine q

  -- moves
  module _ (state : SiteState) (from : ℕ) (letter : Letter) (next : BeginsNext) where
    moved : {turn after : Turn SiteState} → Move w state from letter turn after → Ascend turn.state.running → Kept turn → Kept after
    moved {turn = turn} (parts.begins s n l g) a (ts, q) =
        let after = next ts turn.state.site turn.state.running turn.state.next q.1 n in
        begins ts (passed w turn) (next_of turn) q.0 (subst (λ s. Keeps (ts ++ next_of turn ∷ []) turn.state.site turn.state.running (programs.following w s turn.state.next)) (sym q.1.site) after.0) after.1 g
    moved {turn = turn} (parts.asks r i x s o f p m y) a (ts, q) = (ts, (plus turn _ ts refl q.0, puts ts turn.state.site turn.state.running turn.state.next _ q.1 (found ts turn r.txn r q f)))
    moved {turn = turn} (parts.loses r read writes awaited s f p m) a (ts, q) = (ts, (q.0, puts ts turn.state.site turn.state.running turn.state.next _ q.1 (found ts turn r.txn r q f)))
    moved {turn = turn} (parts.joins r read writes awaited s n f p m y) a (ts, q) =
        (ts, (plus turn _ ts (unheard (s.0 + 1) (session turn.state.vector s) (letters.Prepare r.txn (programs.held_by w s writes)) refl) q.0, puts ts turn.state.site turn.state.running turn.state.next _ q.1 (found ts turn r.txn r q f)))
    moved {turn = turn} (parts.commits r read writes f p m) a (ts, q) = (ts, (plus turn _ ts refl q.0, puts ts turn.state.site turn.state.running turn.state.next _ q.1 (found ts turn r.txn r q f)))

    pub moves_keep : {turn last : Turn SiteState} → Moves w state from letter turn last → Ascend turn.state.running → Kept turn → Kept last
    moves_keep parts.done a q = q
    moves_keep (parts.moves m rest) a q = moves_keep rest (ascend_move w state from letter a m) (moved m a q)

  -- the step, where no Stop is heard, and a Welcome and a Drop say what may begin
  module _ (state : SiteState) (k : Keeps [] state.site state.running state.next) (from : ℕ) (letter : Letter) (next : BeginsNext) where
    pub rowed : (from ≡ 0 → letter.message ≡ letters.Stop → ⊥) → ((v : List ℕ) (n : ℕ) → Tells w state from letter (letters.Welcome v n) → Counts [] n) → ((t : Txn) → Tells w state from letter (letters.Drop t true) → BeginsAgain t) → {after : Turn SiteState} → Row w state from letter after → Kept after
    rowed stop welcome retry (parts.halts u f m) = absurd (stop f m)
    rowed stop welcome retry (parts.returns u f m) = ([], (refl, k))
    rowed stop welcome retry (parts.refuses i t writes u f l m) = ([], (unheard (i + 2) letter.from (letters.Vote t (No letter.to state.session)) refl, k))
    rowed stop welcome retry (parts.idle i) = ([], (refl, k))
    rowed stop welcome retry (parts.welcomed v n m) = ([], (refl, record { site = k.site; fine = k.fine; counts = welcome v n m; ascend = k.ascend }))
    rowed stop welcome retry (parts.served t i x r n c m q o) = ([], (unheard (r.0 + 1) n (letters.Value t i c.value) refl, k))
    rowed stop welcome retry (parts.notes r i x q s f p m) = ([], (refl, puts [] state.site state.running state.next _ k (found [] (opened state) r.txn r (refl, k) f)))
    rowed stop welcome retry (parts.applied t number ps m q) = ([], (refl, k))
    rowed stop welcome retry (parts.over t m) = ([], (refl, without t [] state.site state.running state.next k))
    rowed stop welcome retry (parts.dropped t again m q) = ([], (refl, without t [] state.site state.running state.next k))
    rowed stop welcome retry (parts.retried t m q g) = (let after = retry t m state.site state.running state.next k q in begins [] (parts.drops state t) (programs.next_attempt w t) refl (without t (programs.next_attempt w t ∷ []) state.site state.running state.next after.0) after.1 g)
    rowed stop welcome retry (parts.falls s m) = ([], (refl, k))
    rowed stop welcome retry (parts.rises s n m) = ([], (refl, k))
    rowed stop welcome retry (parts.copies x target n c m q) = ([], (unheard (target.0 + 1) n (letters.CopyValue x c.value c.version) refl, k))
    rowed stop welcome retry (parts.staged i t writes m) = ([], (unheard ((site (i + 1)).0 + 1) letter.from (letters.Vote t Yes) refl, k))
    rowed stop welcome retry (parts.counts i r read writes awaited f p m q) = ([], (refl, puts [] state.site state.running state.next _ k (found [] (opened state) r.txn r (refl, k) f)))
    rowed stop welcome retry (parts.renewed i x v version c m q l) = ([], (refl, k))
    rowed stop welcome retry (parts.given r i x q v f p m g) = ([], goes [] (opened state) (record r { answers = put r.answers x v }) (refl, k) (found [] (opened state) r.txn r (refl, k) f) g)

    pub hears : (from ≡ 0 → letter.message ≡ letters.Stop → ⊥) → ((v : List ℕ) (n : ℕ) → Tells w state from letter (letters.Welcome v n) → Counts [] n) → ((t : Txn) → Tells w state from letter (letters.Drop t true) → BeginsAgain t) → Kept (rows.hear_site w state from letter)
    hears stop welcome retry = step_keeps w state from letter Kept (λ after r. rowed stop welcome retry r) (λ turn after m. moved state from letter next m) k.ascend

  -- an up site that hears the sequencer, or another site
  module _ (next : BeginsNext) (state : SiteState) (k : Keeps [] state.site state.running state.next) (up : state.up ≡ true) where
    pub hears_sequencer : (letter : Letter) → ((letter.to == state.session) ≡ true → (v : List ℕ) (n : ℕ) → letter.message ≡ letters.Welcome v n → Counts [] n) → ((letter.to == state.session) ≡ true → (t : Txn) → letter.message ≡ letters.Drop t true → BeginsAgain t) →
        Kept (rows.hear_up w state 1 letter)
    hears_sequencer letter welcome retry = subst (λ b. Kept (if b then rows.hear_up w state 1 letter else rows.hear_down state 1 letter)) up (hears state k 1 letter next (λ f. absurd (cc f)) (λ v n m. welcome m.heard.meant v n m.is) (λ t m. retry m.heard.meant t m.is))

    pub hears_site : (i : ℕ) (letter : Letter) → Kept (rows.hear_up w state (suc (suc i)) letter)
    hears_site i letter = subst (λ b. Kept (if b then rows.hear_up w state (suc (suc i)) letter else rows.hear_down state (suc (suc i)) letter)) up (hears state k (suc (suc i)) letter next (λ f. absurd (cc f)) (λ v n m. absurd (cc m.by)) (λ t m. absurd (cc m.by)))
