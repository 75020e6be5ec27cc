-- An upheld report in which all was asked is legal. What is told of programs is what they make of the reads that are told, and so of what they
-- have seen, where both agree.
use Rattle.std.proofs.Common.{◌≡◌, ℤ, List, [], ◌∷◌, ◌++◌, map, Option, Some, None, refl, sym, ap, subst, ◌∙◌}
use Rattle.std.specs.List.{AllByRecursion}
use Rattle.raid_base.specs.declared.names.Txn.{Txn}
use Rattle.raid_base.specs.declared.names.Item.{Item}
use Rattle.raid_base.specs.declared.request.Request.{Request}
use Rattle.raid_base.specs.declared.report.Report.{Report}
use Rattle.raid_base.specs.declared.entry.Act.{Act}
use Rattle.raid_base.specs.declared.entry.Act.TheVariants as acts
use Rattle.raid_base.specs.declared.entry.Cause.{Cause}
use Rattle.raid_base.specs.declared.entry.Cause.TheVariants as causes
use Rattle.raid_base.specs.declared.entry.Entry.{Entry}
use Rattle.raid_base.specs.declared.entry.Entry.TheVariants.{Begin, Read, Wait, Commit, Abort, Ack, SwitchOn, SwitchEnd, Down, Up, Clear}
use Rattle.raid_base.specs.declared.entry.Noted.{Noted}
use Rattle.raid_program.specs.declared.program.Want.{Want}
use Rattle.raid_program.specs.declared.program.Want.TheVariants as wants
use Rattle.raid_program.specs.Run.{Outcome}
use Rattle.raid_program.proofs.Tables.{on_table}
use Rattle.raid_workload.specs.declared.workload.Workload.{Workload}
use Rattle.raid_workload.specs.Parts.{program}
use Rattle.raid_rules.specs.History.{noted}
use Rattle.raid_rules.proofs.Places.{noted_entries}
use Rattle.raid_legal.specs.Seen.{seen, outcome}
use Rattle.raid_legal.specs.Forced.{forced}
use Rattle.raid_legal.specs.Legal.{Makes, EndsBy, EndsSo, Aborts, Free, Comes, Allowed, EachSeeing, Legal}
use Rattle.raid_legal.specs.Serial.{Serial}
use Rattle.raid_serial.proofs.Reports.{report_is_serial}
use Rattle.raid_placed.specs.Placed.{SentAbort, Sent, Goes, Placeable}
use Rattle.raid_report.specs.Known.{KnowsRequest, IsActOf, IsEntryOf}
use Rattle.raid_made.specs.Made.{made_of, IsMadeRequest, EndsWith, IsMadeEnd, IsMadeAct, IsMade}
use Rattle.raid_sessions.specs.Due.{IsDue}
use Rattle.raid_runs.specs.Asked.{IsSeen, IsAskedAct, IsAsked, AreAsked}
use Rattle.raid_runs.specs.Upheld.{Upheld}

-- a commit that was refused has a vector with a session for each site
commit_known : (w : Workload) (cause : Cause) (request : Request) → IsActOf w cause (acts.Commit request) → KnowsRequest w request
commit_known w causes.Own request known = absurd known
commit_known w causes.Overflow request known = absurd known
commit_known w causes.Late request known = known
commit_known w causes.Invalid request known = known
commit_known w causes.Cycle request known = known
commit_known w causes.Deadlock request known = known
commit_known w (causes.SwitchOff k) request known = absurd known
commit_known w causes.HomeDown request known = absurd known
commit_known w (causes.Stale v) request known = known.1
commit_known w causes.NoCopy request known = known

module _ (w : Workload) (p : List Noted) where
  -- what the program makes of the reads that are told, it makes of what it has seen
  request_makes : (t : Txn) (request : Request) → IsMadeRequest w t request → IsSeen w p t request.reads → KnowsRequest w request → Makes w p t request
  request_makes t request made same known =
      let o : Outcome = record { end = wants.Done; reads = request.reads; writes = request.writes } in
      let is : outcome w p t ≡ o = on_table (program w t) request.reads (seen w p t) o made refl same (λ x e. absurd (cc e)) in
      record { done = ap (λ (z : Outcome). z.end) is; reads = ap (λ (z : Outcome). z.reads) is; writes = ap (λ (z : Outcome). z.writes) is; sites = known.under }

  -- so of a way in which it ends
  end_by : (t : Txn) (end : Want) (reads : List (Item × ℤ)) → ((x : Item) → end ≡ wants.Read x → ⊥) → EndsWith w t end reads → IsSeen w p t reads → EndsBy w p t end reads
  end_by t end reads none made same =
      let o = made_of w t reads in
      let is : outcome w p t ≡ o = on_table (program w t) reads (seen w p t) o refl made.read same (λ x e. absurd (none x (sym made.ended ∙ e))) in
      record { ended = ap (λ (z : Outcome). z.end) is ∙ made.ended; read = ap (λ (z : Outcome). z.reads) is ∙ made.read }

  end_so : (t : Txn) (cause : Cause) (reads : List (Item × ℤ)) → IsMadeEnd w t cause reads → IsSeen w p t reads → EndsSo w p t cause reads
  end_so t causes.Own reads made same = end_by t wants.Own reads (λ x e. cc e) made same
  end_so t causes.Overflow reads made same = end_by t wants.Overflow reads (λ x e. cc e) made same
  end_so t other reads made same = absurd made

  -- an entry that was placed where none is forced may come there
  abort_comes : (t : Txn) (cause : Cause) (act : Act) → SentAbort w p t cause act → IsAskedAct w p t act → IsMadeAct w t cause act → IsActOf w cause act → Aborts w p t cause act
  abort_comes t cause acts.Nothing sent asked made known = sent
  abort_comes t cause (acts.Ended reads) sent asked made known = (sent, end_so t cause reads made asked)
  abort_comes t cause (acts.Read x) sent asked made known = (sent.0, sent.1, asked)
  abort_comes t cause (acts.Commit request) sent asked made known = (sent.0, sent.1, request_makes t request made asked (commit_known w cause request known))

  entry_comes : (e : Entry) → Sent w p e → IsAsked w p e → IsDue w p e → IsMade w e → IsEntryOf w e → Free w p e
  entry_comes (Begin t s) sent asked due made known = sent
  entry_comes (Read t x s) sent asked due made known = (sent.0, sent.1, asked)
  entry_comes (Wait t request) sent asked due made known = (sent.0, sent.1, request_makes t request made asked known.1)
  entry_comes (Commit t request applied) sent asked due made known = (sent.0, sent.1, request_makes t request made asked known.1)
  entry_comes (Abort t cause act) sent asked due made known = abort_comes t cause act sent asked made known.1
  entry_comes (Ack t s) sent asked due made known = sent
  entry_comes (SwitchOn k kind method) sent asked due made known = sent
  entry_comes (SwitchEnd k) sent asked due made known = sent
  entry_comes (Down s) sent asked due made known = due
  entry_comes (Up s session) sent asked due made known = due
  entry_comes (Clear s x v) sent asked due made known = due

  -- a forced entry is the one that comes
  goes_comes : (e : Entry) (o : Option Entry) → forced w p ≡ o → Goes w p e o → (forced w p ≡ None → IsAsked w p e) → IsDue w p e → IsMade w e → IsEntryOf w e → Comes w p e o
  goes_comes e (Some must) q goes asked due made known = goes
  goes_comes e None q goes asked due made known = entry_comes e goes (asked q) due made known

each_comes : (w : Workload) (before p : List Noted) → EachSeeing (λ q n. Placeable w q n.entry) before p → EachSeeing (λ q n. forced w q ≡ None → IsAsked w q n.entry) before p →
    EachSeeing (λ q n. IsDue w q n.entry) before p → AllByRecursion (IsMade w) (map (λ n. n.entry) p) → AllByRecursion (IsEntryOf w) (map (λ n. n.entry) p) →
    EachSeeing (λ q n. Allowed w q n.entry) before p
each_comes w before [] placed asked due made known = tt
each_comes w before (n ∷ ns) placed asked due made known =
    (goes_comes w before n.entry (forced w before) refl placed.0 asked.0 due.0 made.0 known.0, each_comes w (before ++ n ∷ []) ns placed.1 asked.1 due.1 made.1 known.1)

pub upheld_legal : (w : Workload) (r : Report) → Upheld w r → AreAsked w r.entries → Legal w r.entries
upheld_legal w r upheld asked =
    let same = sym (noted_entries r.entries) in
    each_comes w [] (noted r.entries) upheld.placed asked upheld.due (subst (AllByRecursion (IsMade w)) same upheld.made) (subst (AllByRecursion (IsEntryOf w)) same upheld.known.entries)

-- so its transactions can be run one at a time
pub upheld_serial : (w : Workload) (r : Report) → Upheld w r → AreAsked w r.entries → Serial w r
upheld_serial w r upheld asked = report_is_serial w r (upheld_legal w r upheld asked) upheld.in_order upheld.values
