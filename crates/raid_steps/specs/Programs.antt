-- What a site does with the programs that run at it: it begins them, asks for what they read, prepares their commits, and ends them.
use Rattle.std.specs.Prelude.{ℕ, ℤ, ◌+◌, ◌-◌, ◌==◌, nat_lt, Bool, not, ◌&&◌, ◌||◌, List, [], ◌∷◌, length, fold, map, filter, find, Option, Some, None, if◌then◌else◌}
use Rattle.std.specs.List.{list_any}
use Rattle.std.specs.Option.{option_map_or}
use Rattle.raid_base.specs.declared.names.Txn.{Txn}
use Rattle.raid_base.specs.declared.names.Item.{Item}
use Rattle.raid_base.specs.declared.names.Site.{Site}
use Rattle.raid_base.specs.declared.entry.Cause.{Cause}
use Rattle.raid_base.specs.declared.entry.Cause.TheVariants as causes
use Rattle.raid_base.specs.Names.{is_txn, is_site, has_site}
use Rattle.raid_base.specs.Find.{first_of}
use Rattle.raid_base.specs.Sites.{all_sites}
use Rattle.raid_program.specs.declared.program.Want.{Want}
use Rattle.raid_program.specs.declared.program.Want.TheVariants as wants
use Rattle.raid_program.specs.declared.program.Outcome.{Outcome}
use Rattle.raid_program.specs.Run.{outcome_of, put}
use Rattle.raid_workload.specs.declared.workload.Workload.{Workload}
use Rattle.raid_workload.specs.Parts.{count_from, txns, sites, placement, home, program}
use Rattle.raid_rules.specs.Sessions.{holders, is_site_up}
use Rattle.raid_legal.specs.Seen.{attempt, holds_some}
use Rattle.raid_message.specs.declared.letter.Message.TheVariants as letters
use Rattle.raid_steps.specs.State.{Out, Turn, with_state, send, sending, tell, to_site, Phase, asking, preparing, sent, Running, SiteState}
use Rattle.raid_steps.specs.Copies.{stage}

-- the transaction's running program, if it runs here
abbrev pub running_of : SiteState → Txn → Option Running
running_of state t = find (λ (r : Running). is_txn t r.txn) state.running

-- the transaction's program runs here
abbrev pub runs_here : SiteState → Txn → Bool
runs_here state t = list_any (λ (r : Running). is_txn t r.txn) state.running

-- the running programs with one put in its place, by its number, or in place of what it was
abbrev pub put_running : Running → List Running → List Running
put_running r [] = r ∷ []
put_running r (q ∷ qs) = if is_txn r.txn q.txn then r ∷ qs else if nat_lt r.txn.0 q.txn.0 then r ∷ q ∷ qs else q ∷ put_running r qs

-- the turn in which a program is so
abbrev pub with_running : Turn SiteState → Running → Turn SiteState
with_running turn r = with_state turn (record (turn.state) { running = put_running r turn.state.running })

-- the turn in which a program, if it runs here, is about something else
abbrev pub change : Turn SiteState → Txn → (Phase → Phase) → Turn SiteState
change turn t f = option_map_or (λ r. with_running turn (record r { phase = f r.phase })) (running_of turn.state t) turn

-- the turn in which a transaction has ended here
abbrev pub ended : Turn SiteState → Txn → Turn SiteState
ended turn t = with_state turn (record (turn.state) { running = filter (λ (r : Running). not (is_txn t r.txn)) turn.state.running })

-- a program asks for an item: its next ask is outstanding, and goes to the sequencer
abbrev pub ask : Turn SiteState → Running → Item → Turn SiteState
ask turn r x =
    let k = r.asks + 1 in
    tell (with_running turn (record r { asks = k; phase = asking k x None })) (letters.ReadAsk r.txn k x)

-- a program has ended by itself: the sequencer is told, with what it had read
abbrev pub end_by : Turn SiteState → Running → Cause → Outcome → Turn SiteState
end_by turn r cause o = tell (with_running turn (record r { phase = sent })) (letters.EndAsk r.txn cause o.reads)

-- of some writes those of items that the site holds
abbrev pub held_by : Workload → Site → List (Item × ℤ) → List (Item × ℤ)
held_by w s ps = filter (λ p. has_site (holders (placement w) p.0) s) ps

-- what asks a site to stage its part of a transaction's writes
abbrev pub prepare_out : Workload → List ℕ → Txn → List (Item × ℤ) → Site → Out
prepare_out w v t writes s = to_site v s (letters.Prepare t (held_by w s writes))

-- the other up sites that hold a written item, least first: those that have to vote
abbrev pub voters : Workload → SiteState → List (Item × ℤ) → List Site
voters w state writes = filter (λ s. is_site_up state.vector s && not (is_site state.site s) && holds_some w writes s) (sites w)

-- the site after its own part of a transaction's writes, if it has one, was staged without a letter
abbrev pub stage_own : Workload → SiteState → Txn → List (Item × ℤ) → SiteState
stage_own w state t writes = if holds_some w writes state.site then record state { staged = stage t (held_by w state.site writes) state.staged } else state

-- a program is done, and its transaction is in preparation: each site that holds a written item is asked to stage its part
abbrev pub prepare : Workload → Turn SiteState → Running → Outcome → Turn SiteState
prepare w turn r o =
    let vs = voters w turn.state o.writes in
    let own = with_state turn (stage_own w turn.state r.txn o.writes) in
    sending (with_running own (record r { phase = preparing o.reads o.writes vs })) (map (prepare_out w turn.state.vector r.txn o.writes) vs)

-- a program gets what it wants, or ends
abbrev pub turn_to : Workload → Turn SiteState → Running → Outcome → Want → Turn SiteState
turn_to w turn r o (wants.Read x) = ask turn r x
turn_to w turn r o wants.Done = prepare w turn r o
turn_to w turn r o wants.Own = end_by turn r causes.Own o
turn_to w turn r o wants.Overflow = end_by turn r causes.Overflow o

-- a program goes on with the answers that it has, to its next read or its end
abbrev pub go_on : Workload → Turn SiteState → Running → Turn SiteState
go_on w turn r = let o = outcome_of (program w r.txn) (λ x. first_of x r.answers) in turn_to w turn r o o.end

-- a transaction begins here: the sequencer is told, and its program goes on
abbrev pub begin : Workload → Turn SiteState → Txn → Turn SiteState
begin w turn t = go_on w (tell turn (letters.Begin t)) (record { txn = t; answers = []; asks = 0; phase = sent })

-- the number of the first attempt that a home begins after the transaction with this number, 0 where none is left
abbrev pub following : Workload → Site → ℕ → ℕ
following w s k = option_map_or (λ (t : Txn). t.0) (find (λ t. nat_lt k t.0 && attempt w t == 0 && is_site s (home w t)) (txns w)) 0

-- the next transaction begins here, if one is left
abbrev pub begin_next : Workload → Turn SiteState → Turn SiteState
begin_next w turn =
    let k = turn.state.next in
    if k == 0 then turn else begin w (with_state turn (record (turn.state) { next = following w turn.state.site k })) (record { 0 = k })

-- transactions begin until as many run here as may at once, or none is left
abbrev pub start : Workload → Turn SiteState → Turn SiteState
start w turn = fold (λ t k. begin_next w t) turn (count_from 0 (w.together - length turn.state.running))

-- a value for an ask reaches a program: it goes on where that ask is its outstanding one
abbrev pub give_to : Workload → Turn SiteState → ℕ → ℤ → Running → Phase → Turn SiteState
give_to w turn k v r (asking j x s) = if j == k then go_on w turn (record r { answers = put r.answers x v }) else turn
give_to w turn k v r other = turn

-- a value for an ask of a transaction reaches its home
abbrev pub give : Workload → Turn SiteState → Txn → ℕ → ℤ → Turn SiteState
give w turn t k v = option_map_or (λ r. give_to w turn k v r r.phase) (running_of turn.state t) turn

-- another site serves an ask: it is noted where that ask is the outstanding one
abbrev pub noted_at : ℕ → Site → Phase → Phase
noted_at k s (asking j x r) = if j == k then asking j x (Some s) else asking j x r
noted_at k s other = other

-- a site's vote isn't awaited any more
abbrev pub without_vote : Site → Phase → Phase
without_vote s (preparing reads writes awaited) = preparing reads writes (filter (λ r. not (is_site s r)) awaited)
without_vote s other = other

-- a site's vote is awaited too; the sites stay ascending, each once
abbrev pub with_vote : Site → List Site → List Site
with_vote s awaited = filter (λ r. has_site awaited r || is_site s r) all_sites

-- a site is down, and with it what it was to do for a program: its vote, or a read that it was to serve, which is asked again
abbrev pub lose : Site → Turn SiteState → Running → Phase → Turn SiteState
lose s turn r (asking k x (Some q)) = if is_site s q then ask turn r x else turn
lose s turn r (preparing reads writes awaited) = with_running turn (record r { phase = without_vote s r.phase })
lose s turn r other = turn

-- a site is up again: where a transaction in preparation writes an item held there, the site has to stage its part and to vote
abbrev pub join : Workload → Site → Turn SiteState → Running → Phase → Turn SiteState
join w s turn r (preparing reads writes awaited) =
    if holds_some w writes s
    then send (with_running turn (record r { phase = preparing reads writes (with_vote s awaited) })) (prepare_out w turn.state.vector r.txn writes s)
    else turn
join w s turn r other = turn

-- a transaction in preparation of which no vote is awaited any more asks to commit
abbrev pub ask_commit : Turn SiteState → Running → Phase → Turn SiteState
ask_commit turn r (preparing reads writes []) =
    tell (with_running turn (record r { phase = sent })) (letters.CommitAsk r.txn (record { reads = reads; writes = writes; under = turn.state.vector }))
ask_commit turn r other = turn

-- all such do, least first
abbrev pub ask_commits : Turn SiteState → Turn SiteState
ask_commits turn = fold (λ now r. ask_commit now r r.phase) turn turn.state.running

-- the next attempt at a transaction's program
abbrev pub next_attempt : Workload → Txn → Txn
next_attempt w t = record { 0 = t.0 + length w.programs }
