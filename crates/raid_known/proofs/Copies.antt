-- A site keeps its number and has copies of the same items, whatever it hears. So a report tells all copies.
use Rattle.std.proofs.Common.{◌≡◌, ℕ, ℤ, zero, suc, ◌+◌, ◌-◌, ◌==◌, nat_le, Bool, true, false, ◌&&◌, List, [], ◌∷◌, ◌++◌, length, map, fold, Option, Some, None, if◌then◌else◌, sym, ap, ◌∙◌, refl}
use Rattle.std.specs.Prelude.{flat_map, slice_get, slice_set}
use Rattle.std.specs.Option.{option_map_or}
use Rattle.std.proofs.lemmas.List.{map-append}
use Rattle.raid_base.specs.declared.names.Txn.{Txn}
use Rattle.raid_base.specs.declared.names.Item.{Item}
use Rattle.raid_base.specs.declared.names.Site.{Site}
use Rattle.raid_base.specs.declared.entry.Answer.{Answer}
use Rattle.raid_base.specs.declared.entry.Answer.TheVariants.{Yes, No}
use Rattle.raid_base.specs.declared.report.CopyLine.{CopyLine}
use Rattle.raid_base.specs.Names.{is_item, is_site}
use Rattle.raid_base.specs.Find.{first_of}
use Rattle.raid_base.specs.Sites.{site, session}
use Rattle.raid_program.specs.declared.program.Outcome.{Outcome}
use Rattle.raid_program.specs.declared.program.Want.{Want}
use Rattle.raid_program.specs.declared.program.Want.TheVariants as wants
use Rattle.raid_program.specs.Run.{outcome_of, put}
use Rattle.raid_workload.specs.declared.workload.Workload.{Workload}
use Rattle.raid_workload.specs.Parts.{items, sites, program, count_from, initial}
use Rattle.raid_rules.specs.History.{noted}
use Rattle.raid_legal.specs.Seen.{holds_some, value_of}
use Rattle.raid_message.specs.declared.letter.Message.{Message}
use Rattle.raid_message.specs.declared.letter.Message.TheVariants as letters
use Rattle.raid_message.specs.declared.letter.Letter.{Letter}
use Rattle.raid_message.specs.declared.letter.Pick.{Pick}
use Rattle.raid_report.specs.Known.{place_of, places, held_at}
use Rattle.raid_steps.specs.State.{Turn, Copy, SiteState, Running, Phase, asking, preparing, sent, with_state, opened, send, tell}
use Rattle.raid_steps.specs.Copies.{copy_of, renewed, staged_of, apply, stage, unstage}
use Rattle.raid_steps.specs.Programs as programs
use Rattle.raid_steps.specs.Site as rows
use Rattle.raid_steps.specs.World.{World, Servers, hear, hear_at, first_site, open_world, run, pick, take_front, link, report, copy_lines}
use Rattle.raid_steps.specs.Fits.{is_of_sequencer, is_of_site}

-- where a copy is
abbrev at_site : Site → Copy → Site × Item
at_site s c = (s, c.item)

abbrev in_site : Site → Item → Site × Item
in_site s x = (s, x)

-- the copies that a site has: its number with each item
abbrev copies_at : SiteState → List (Site × Item)
copies_at s = map (at_site s.site) s.copies

-- the turn leaves a site with these copies
abbrev Has : List (Site × Item) → Turn SiteState → Type 0
Has p turn = copies_at turn.state ≡ p

module _ (p : List (Site × Item)) where
  if_has : (b : Bool) (a c : Turn SiteState) → Has p a → Has p c → Has p (if b then a else c)
  if_has true a c x y = x
  if_has false a c x y = y

  or_has : {X : Type 0} (f : X → Turn SiteState) (o : Option X) (d : Turn SiteState) → ((x : X) → Has p (f x)) → Has p d → Has p (option_map_or f o d)
  or_has f None d x y = y
  or_has f (Some z) d x y = x z

  fold_has : {X : Type 0} (step : Turn SiteState → X → Turn SiteState) → ((t : Turn SiteState) (x : X) → Has p t → Has p (step t x)) → (xs : List X) (t : Turn SiteState) → Has p t → Has p (fold step t xs)
  fold_has step each [] t h = h
  fold_has step each (x ∷ xs) t h = fold_has step each xs (step t x) (each t x h)

  -- a map that keeps each copy's item
  same_items : (s : Site) (f : Copy → Copy) → ((c : Copy) → (f c).item ≡ c.item) → (cs : List Copy) → map (at_site s) (map f cs) ≡ map (at_site s) cs
  same_items s f keeps [] = refl
  same_items s f keeps (c ∷ cs) = ap (λ x. (let here : Site × Item = (s, x) in here) ∷ map (at_site s) (map f cs)) (keeps c) ∙ ap (λ ps. at_site s c ∷ ps) (same_items s f keeps cs)

  renewed_item : (number : ℕ) (ps : List (Item × ℤ)) (c : Copy) → (renewed number ps c).item ≡ c.item
  renewed_item number ps c = go (first_of c.item ps)
    where
      go : (o : Option ℤ) → (option_map_or (λ v. let d : Copy = record { item = c.item; value = v; version = number } in d) o c).item ≡ c.item
      go None = refl
      go (Some v) = refl

  abbrev set_one : Item → ℤ → ℕ → Copy → Copy
  set_one x v version c = if is_item x c.item then record { item = c.item; value = v; version = version } else c

  set_item : (x : Item) (v : ℤ) (version : ℕ) (c : Copy) → (set_one x v version c).item ≡ c.item
  set_item x v version c = go (is_item x c.item)
    where
      go : (b : Bool) → (let d : Copy = if b then record { item = c.item; value = v; version = version } else c in d).item ≡ c.item
      go true = refl
      go false = refl

  module _ (w : Workload) where
    own_has : (t : Turn SiteState) (r : Running) (o : Outcome) → Has p t → Has p (programs.prepare w t r o)
    own_has t r o h = go (holds_some w o.writes t.state.site) (stage r.txn (programs.held_by w t.state.site o.writes) t.state.staged)
      where
        go : (b : Bool) (staged : List (Txn × List (Item × ℤ))) → copies_at (if b then record (t.state) { staged = staged } else t.state) ≡ p
        go true staged = h
        go false staged = h

    turn_has : (t : Turn SiteState) (r : Running) (o : Outcome) (want : Want) → Has p t → Has p (programs.turn_to w t r o want)
    turn_has t r o (wants.Read x) h = h
    turn_has t r o wants.Done h = own_has t r o h
    turn_has t r o wants.Own h = h
    turn_has t r o wants.Overflow h = h

    go_has : (t : Turn SiteState) (r : Running) → Has p t → Has p (programs.go_on w t r)
    go_has t r h = turn_has t r (outcome_of (program w r.txn) (λ x. first_of x r.answers)) (outcome_of (program w r.txn) (λ x. first_of x r.answers)).end h

    begin_has : (t : Turn SiteState) (x : Txn) → Has p t → Has p (programs.begin w t x)
    begin_has t x h = go_has (tell t (letters.Begin x)) (record { txn = x; answers = []; asks = 0; phase = sent }) h

    next_has : (t : Turn SiteState) → Has p t → Has p (programs.begin_next w t)
    next_has t h =
        let now : Turn SiteState = with_state t (record (t.state) { next = programs.following w t.state.site t.state.next }) in
        let x : Txn = record { 0 = t.state.next } in
        if_has (t.state.next == 0) t (programs.begin w now x) h (begin_has now x h)

    start_has : (t : Turn SiteState) → Has p t → Has p (programs.start w t)
    start_has t h = fold_has (λ t k. programs.begin_next w t) (λ t k. next_has t) (count_from 0 (w.together - length t.state.running)) t h

    give_to_has : (t : Turn SiteState) (k : ℕ) (v : ℤ) (r : Running) (phase : Phase) → Has p t → Has p (programs.give_to w t k v r phase)
    give_to_has t k v r (asking j x s) h = if_has (j == k) (programs.go_on w t (record r { answers = put r.answers x v })) t (go_has t (record r { answers = put r.answers x v }) h) h
    give_to_has t k v r (preparing reads writes awaited) h = h
    give_to_has t k v r sent h = h

    give_has : (t : Turn SiteState) (x : Txn) (k : ℕ) (v : ℤ) → Has p t → Has p (programs.give w t x k v)
    give_has t x k v h = or_has (λ r. programs.give_to w t k v r r.phase) (programs.running_of t.state x) t (λ r. give_to_has t k v r r.phase h) h

    change_has : (t : Turn SiteState) (x : Txn) (f : Phase → Phase) → Has p t → Has p (programs.change t x f)
    change_has t x f h = or_has (λ r. programs.with_running t (record r { phase = f r.phase })) (programs.running_of t.state x) t (λ r. h) h

    lose_has : (s : Site) (t : Turn SiteState) (r : Running) (phase : Phase) → Has p t → Has p (programs.lose s t r phase)
    lose_has s t r (asking k x None) h = h
    lose_has s t r (asking k x (Some q)) h = if_has (is_site s q) (programs.ask t r x) t h h
    lose_has s t r (preparing reads writes awaited) h = h
    lose_has s t r sent h = h

    join_has : (s : Site) (t : Turn SiteState) (r : Running) (phase : Phase) → Has p t → Has p (programs.join w s t r phase)
    join_has s t r (asking k x q) h = h
    join_has s t r (preparing reads writes awaited) h = if_has (holds_some w writes s) (send (programs.with_running t (record r { phase = preparing reads writes (programs.with_vote s awaited) })) (programs.prepare_out w t.state.vector r.txn writes s)) t h h
    join_has s t r sent h = h

    ask_has : (t : Turn SiteState) (r : Running) (phase : Phase) → Has p t → Has p (programs.ask_commit t r phase)
    ask_has t r (asking k x q) h = h
    ask_has t r (preparing reads writes []) h = h
    ask_has t r (preparing reads writes (s ∷ ss)) h = h
    ask_has t r sent h = h

    asks_has : (t : Turn SiteState) → Has p t → Has p (programs.ask_commits t)
    asks_has t h = fold_has (λ now r. programs.ask_commit now r r.phase) (λ now r. ask_has now r r.phase) t.state.running t h

    sequencer_has : (t : Turn SiteState) (m : Message) → Has p t → Has p (rows.sequencer_row w t m)
    sequencer_has t (letters.Welcome v next) h = start_has (with_state t (record (t.state) { vector = v; next = next })) h
    sequencer_has t (letters.ReadDo x k i s n) h = or_has (rows.serve w t x k s n) (copy_of t.state i) t (λ c. if_has (is_site t.state.site s) (programs.give w t x k c.value) (send t (s.0 + 1, n, letters.Value x k c.value)) (give_has t x k c.value h) h) h
    sequencer_has t (letters.Serving x k s) h = change_has t x (programs.noted_at k s) h
    sequencer_has t (letters.Apply x number) h = or_has (λ ps. tell (with_state t (apply t.state x number ps)) (letters.Ack x)) (staged_of t.state x) t (λ ps. same_items t.state.site (renewed number ps) (renewed_item number ps) t.state.copies ∙ h) h
    sequencer_has t (letters.Done x) h = start_has (programs.ended t x) h
    sequencer_has t (letters.Drop x again) h =
        let dropped : Turn SiteState = programs.ended (with_state t (record (t.state) { staged = unstage x t.state.staged })) x in
        start_has (if programs.runs_here t.state x && again then programs.begin w dropped (programs.next_attempt w x) else dropped)
        (if_has (programs.runs_here t.state x && again) (programs.begin w dropped (programs.next_attempt w x)) dropped (begin_has dropped (programs.next_attempt w x) h) h)
    sequencer_has t (letters.DownNote s) h = fold_has (λ now r. programs.lose s now r r.phase) (λ now r. lose_has s now r r.phase) t.state.running (rows.with_vector t s 0) h
    sequencer_has t (letters.UpNote s n) h = fold_has (λ now r. programs.join w s now r r.phase) (λ now r. join_has s now r r.phase) t.state.running (rows.with_vector t s n) h
    sequencer_has t (letters.CopyDo x s n) h = or_has (λ (c : Copy). send t (s.0 + 1, n, letters.CopyValue x c.value c.version)) (copy_of t.state x) t (λ c. h) h
    sequencer_has t letters.Hello h = h
    sequencer_has t (letters.Begin x) h = h
    sequencer_has t (letters.ReadAsk x k i) h = h
    sequencer_has t (letters.CommitAsk x request) h = h
    sequencer_has t (letters.EndAsk x cause reads) h = h
    sequencer_has t (letters.Ack x) h = h
    sequencer_has t (letters.CopyDone x version) h = h
    sequencer_has t (letters.Value x k v) h = h
    sequencer_has t (letters.Prepare x writes) h = h
    sequencer_has t (letters.Vote x answer) h = h
    sequencer_has t (letters.CopyValue x v version) h = h
    sequencer_has t letters.Stop h = h
    sequencer_has t letters.Return h = h
    sequencer_has t letters.Halted h = h
    sequencer_has t (letters.Down s n) h = h
    sequencer_has t (letters.Ends count) h = h

    vote_has : (t : Turn SiteState) (x : Txn) (s : Site) (n : ℕ) (answer : Answer) → Has p t → Has p (rows.vote_row t x s n answer)
    vote_has t x s n Yes h = if_has (session t.state.vector s == n) (programs.change t x (programs.without_vote s)) t (change_has t x (programs.without_vote s) h) h
    vote_has t x s n (No named own) h = h

    refresh_has : (t : Turn SiteState) (x : Item) (v : ℤ) (version : ℕ) (c : Copy) → Has p t → Has p (rows.refresh t x v version c)
    refresh_has t x v version c h =
        if_has (nat_le c.version version) (tell (with_state t (record (t.state) { copies = map (set_one x v version) t.state.copies })) (letters.CopyDone x version)) t
        (same_items t.state.site (set_one x v version) (set_item x v version) t.state.copies ∙ h) h

    peer_has : (t : Turn SiteState) (s : Site) (n : ℕ) (m : Message) → Has p t → Has p (rows.peer_row w t s n m)
    peer_has t s n (letters.Value x k v) h = give_has t x k v h
    peer_has t s n (letters.Prepare x writes) h = h
    peer_has t s n (letters.Vote x answer) h = vote_has t x s n answer h
    peer_has t s n (letters.CopyValue x v version) h = or_has (rows.refresh t x v version) (copy_of t.state x) t (λ c. refresh_has t x v version c h) h
    peer_has t s n (letters.Welcome v next) h = h
    peer_has t s n (letters.ReadDo x k i home m) h = h
    peer_has t s n (letters.Serving x k r) h = h
    peer_has t s n (letters.Apply x number) h = h
    peer_has t s n (letters.Done x) h = h
    peer_has t s n (letters.Drop x again) h = h
    peer_has t s n (letters.DownNote r) h = h
    peer_has t s n (letters.UpNote r m) h = h
    peer_has t s n (letters.CopyDo x r m) h = h
    peer_has t s n letters.Hello h = h
    peer_has t s n (letters.Begin x) h = h
    peer_has t s n (letters.ReadAsk x k i) h = h
    peer_has t s n (letters.CommitAsk x request) h = h
    peer_has t s n (letters.EndAsk x cause reads) h = h
    peer_has t s n (letters.Ack x) h = h
    peer_has t s n (letters.CopyDone x version) h = h
    peer_has t s n letters.Stop h = h
    peer_has t s n letters.Return h = h
    peer_has t s n letters.Halted h = h
    peer_has t s n (letters.Down r m) h = h
    peer_has t s n (letters.Ends count) h = h

    fits_has : (fits : Bool) (s : SiteState) (t : Turn SiteState) → copies_at s ≡ p → Has p t → Has p (rows.hear_if fits s t)
    fits_has true s t h k = asks_has t k
    fits_has false s t h k = h

    refuse_has : (s : SiteState) (from : ℕ) (l : Letter) (m : Message) → copies_at s ≡ p → Has p (rows.refuse s from l m)
    refuse_has s from l (letters.Prepare x writes) h = h
    refuse_has s from l (letters.Value x k v) h = h
    refuse_has s from l (letters.Vote x answer) h = h
    refuse_has s from l (letters.CopyValue x v version) h = h
    refuse_has s from l (letters.Welcome v next) h = h
    refuse_has s from l (letters.ReadDo x k i home m) h = h
    refuse_has s from l (letters.Serving x k r) h = h
    refuse_has s from l (letters.Apply x number) h = h
    refuse_has s from l (letters.Done x) h = h
    refuse_has s from l (letters.Drop x again) h = h
    refuse_has s from l (letters.DownNote r) h = h
    refuse_has s from l (letters.UpNote r m) h = h
    refuse_has s from l (letters.CopyDo x r m) h = h
    refuse_has s from l letters.Hello h = h
    refuse_has s from l (letters.Begin x) h = h
    refuse_has s from l (letters.ReadAsk x k i) h = h
    refuse_has s from l (letters.CommitAsk x request) h = h
    refuse_has s from l (letters.EndAsk x cause reads) h = h
    refuse_has s from l (letters.Ack x) h = h
    refuse_has s from l (letters.CopyDone x version) h = h
    refuse_has s from l letters.Stop h = h
    refuse_has s from l letters.Return h = h
    refuse_has s from l letters.Halted h = h
    refuse_has s from l (letters.Down r m) h = h
    refuse_has s from l (letters.Ends count) h = h

    stop_has : (s : SiteState) (m : Message) → copies_at s ≡ p → Has p (rows.stop w s m)
    stop_has s (letters.Prepare x writes) h = h
    stop_has s (letters.Value x k v) h = h
    stop_has s (letters.Vote x answer) h = h
    stop_has s (letters.CopyValue x v version) h = h
    stop_has s (letters.Welcome v next) h = h
    stop_has s (letters.ReadDo x k i home m) h = h
    stop_has s (letters.Serving x k r) h = h
    stop_has s (letters.Apply x number) h = h
    stop_has s (letters.Done x) h = h
    stop_has s (letters.Drop x again) h = h
    stop_has s (letters.DownNote r) h = h
    stop_has s (letters.UpNote r m) h = h
    stop_has s (letters.CopyDo x r m) h = h
    stop_has s letters.Hello h = h
    stop_has s (letters.Begin x) h = h
    stop_has s (letters.ReadAsk x k i) h = h
    stop_has s (letters.CommitAsk x request) h = h
    stop_has s (letters.EndAsk x cause reads) h = h
    stop_has s (letters.Ack x) h = h
    stop_has s (letters.CopyDone x version) h = h
    stop_has s letters.Stop h = h
    stop_has s letters.Return h = h
    stop_has s letters.Halted h = h
    stop_has s (letters.Down r m) h = h
    stop_has s (letters.Ends count) h = h

    return_has : (s : SiteState) (m : Message) → copies_at s ≡ p → Has p (rows.return s m)
    return_has s (letters.Prepare x writes) h = h
    return_has s (letters.Value x k v) h = h
    return_has s (letters.Vote x answer) h = h
    return_has s (letters.CopyValue x v version) h = h
    return_has s (letters.Welcome v next) h = h
    return_has s (letters.ReadDo x k i home m) h = h
    return_has s (letters.Serving x k r) h = h
    return_has s (letters.Apply x number) h = h
    return_has s (letters.Done x) h = h
    return_has s (letters.Drop x again) h = h
    return_has s (letters.DownNote r) h = h
    return_has s (letters.UpNote r m) h = h
    return_has s (letters.CopyDo x r m) h = h
    return_has s letters.Hello h = h
    return_has s (letters.Begin x) h = h
    return_has s (letters.ReadAsk x k i) h = h
    return_has s (letters.CommitAsk x request) h = h
    return_has s (letters.EndAsk x cause reads) h = h
    return_has s (letters.Ack x) h = h
    return_has s (letters.CopyDone x version) h = h
    return_has s letters.Stop h = h
    return_has s letters.Return h = h
    return_has s letters.Halted h = h
    return_has s (letters.Down r m) h = h
    return_has s (letters.Ends count) h = h

    up_has : (s : SiteState) (from : ℕ) (l : Letter) → copies_at s ≡ p → Has p (rows.hear_up w s from l)
    up_has s zero l h = stop_has s l.message h
    up_has s (suc zero) l h = if_has (l.to == s.session) (rows.hear_sequencer w s l) (opened s)
        (fits_has (is_of_sequencer w l.message && rows.fits_here w s l.message) s (rows.sequencer_row w (opened s) l.message) h (sequencer_has (opened s) l.message h)) h
    up_has s (suc (suc k)) l h = if_has (l.to == s.session) (rows.hear_peer w s (site (k + 1)) l) (rows.refuse s (k + 2) l l.message)
        (fits_has (is_of_site w l.message && rows.fits_here w s l.message) s (rows.peer_row w (opened s) (site (k + 1)) l.from l.message) h (peer_has (opened s) (site (k + 1)) l.from l.message h)) (refuse_has s (k + 2) l l.message h)

    down_has : (s : SiteState) (from : ℕ) (l : Letter) → copies_at s ≡ p → Has p (rows.hear_down s from l)
    down_has s zero l h = return_has s l.message h
    down_has s (suc k) l h = h

    site_has : (s : SiteState) (from : ℕ) (l : Letter) → copies_at s ≡ p → Has p (rows.hear_site w s from l)
    site_has s from l h = if_has s.up (rows.hear_up w s from l) (rows.hear_down s from l) (up_has s from l h) (down_has s from l h)

-- all copies of some sites
abbrev copies_of : List SiteState → List (Site × Item)
copies_of ss = flat_map copies_at ss

set_same : (ss : List SiteState) (k : ℕ) (old new : SiteState) → slice_get ss k ≡ Some old → copies_at new ≡ copies_at old → copies_of (slice_set ss k new) ≡ copies_of ss
set_same [] k old new q h = refl
set_same (s ∷ ss) zero old new q h = let e : s ≡ old = cc q in ap (λ ps. ps ++ copies_of ss) (h ∙ sym (ap copies_at e))
set_same (s ∷ ss) (suc k) old new q h = ap (λ ps. copies_at s ++ ps) (set_same ss k old new q h)

hear_same : (w : Workload) (s : Servers) (server from : ℕ) (l : Letter) → copies_of (hear w s server from l).0.sites ≡ copies_of s.sites
hear_same w s zero from l = refl
hear_same w s (suc zero) from l = refl
hear_same w s (suc (suc k)) from l = go (slice_get s.sites k) refl
  where
    go : (o : Option SiteState) → slice_get s.sites k ≡ o → copies_of (hear_at w s k from l o).0.sites ≡ copies_of s.sites
    go None q = refl
    go (Some state) q = set_same s.sites k state (rows.hear_site w state from l).state q (site_has (copies_at state) w state from l refl)

pick_same : (w : Workload) (state : World) (p : Pick) → copies_of (pick w state p).servers.sites ≡ copies_of state.servers.sites
pick_same w state p = go (link state.links p.server p.from)
  where
    go : (queue : List Letter) → copies_of (take_front w state p.server p.from queue).servers.sites ≡ copies_of state.servers.sites
    go [] = refl
    go (l ∷ rest) = hear_same w state.servers p.server p.from l

picks_same : (w : Workload) (state : World) (ps : List Pick) → copies_of (fold (pick w) state ps).servers.sites ≡ copies_of state.servers.sites
picks_same w state [] = refl
picks_same w state (p ∷ ps) = picks_same w (pick w state p) ps ∙ pick_same w state p

-- what is told of them
lines_places : (s : Site) (cs : List Copy) → map place_of (map (λ (c : Copy). let l : CopyLine = record { site = s; item = c.item; value = c.value; version = c.version } in l) cs) ≡ map (at_site s) cs
lines_places s [] = refl
lines_places s (c ∷ cs) = ap (λ ps. at_site s c ∷ ps) (lines_places s cs)

told_places : (ss : List SiteState) → map place_of (flat_map copy_lines ss) ≡ copies_of ss
told_places [] = refl
told_places (s ∷ ss) = map-append place_of (copy_lines s) (flat_map copy_lines ss) ∙ ap (λ ps. ps ++ map place_of (flat_map copy_lines ss)) (lines_places s.site s.copies) ∙ ap (λ ps. copies_at s ++ ps) (told_places ss)

-- the copies at the start
first_items : (w : Workload) (s : Site) (xs : List Item) →
    map (at_site s) (map (λ x. let c : Copy = record { item = x; value = initial w x; version = 0 } in c) xs) ≡ map (in_site s) xs
first_items w s [] = refl
first_items w s (x ∷ xs) = ap (λ ps. in_site s x ∷ ps) (first_items w s xs)

first_copies : (w : Workload) (ss : List Site) → copies_of (map (first_site w) ss) ≡ flat_map (λ s. map (in_site s) (held_at w s)) ss
first_copies w [] = refl
first_copies w (s ∷ ss) = ap (λ ps. ps ++ copies_of (map (first_site w) ss)) (first_items w s (held_at w s)) ∙ ap (λ ps. map (in_site s) (held_at w s) ++ ps) (first_copies w ss)

pub copies_told : (w : Workload) (schedule : List Pick) → map place_of (report w (run w schedule).servers).copies ≡ places w
copies_told w schedule = told_places (run w schedule).servers.sites ∙ picks_same w (open_world w) schedule ∙ first_copies w (sites w)

firsts : (f : Item → ℤ) (xs : List Item) → map (λ (p : Item × ℤ). p.0) (map (λ x. (x, f x)) xs) ≡ xs
firsts f [] = refl
firsts f (x ∷ xs) = ap (λ ys. x ∷ ys) (firsts f xs)

pub finals_told : (w : Workload) (schedule : List Pick) → map (λ p. p.0) (report w (run w schedule).servers).finals ≡ items w
finals_told w schedule = firsts (value_of w (noted (run w schedule).servers.sequencer.history)) (items w)
