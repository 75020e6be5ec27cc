use Rattle.std.proofs.Common.{◌≡◌, ◌+◌, ◌<◌, ◌==◌, ◌&&◌, true, false, ℕ, Bool, length, set, sym, ◌∙◌, subst}
use Rattle.std.specs.Prelude.{slice_index}
use Rattle.std.proofs.lemmas.Bool.{and_left, and_right, ne_eqb}
use Rattle.raid_cycles.specs.Marks.{member_at}
use Rattle.raid_cycles.proofs.Marking.{scan_same, scan_leaves, scan_marks}
use Rattle.raid_cycles.proofs.marks.mark_sources.Goals.{then-marks-k-eq0+then-leads, else-marks-k-eq0, else-marks-k-eq0-via-then-marks-k-eq0+else-leads, else-marks-k-eq0-via-else-marks-k-eq0}
use Rattle.raid_cycles.proofs.marks.mark_sources.Goals as goal

pub loop-k-preserved : goal.loop-k-preserved
loop-k-preserved g c =
    let test : ℕ → Bool = λ k. g.G.Graph.edges c.args.graph.now (member_at c.args.members.now k) c.args.to in
    let below : c.loop-k.k < length c.args.marks.now = subst (λ n. c.loop-k.k < n) (sym c.requires.long) c.loop-k-test.true in
    elim c.if-marks-k-eq0.branch [
      | then-marks-k-eq0+then-leads w ↦
          scan_same test c.args.mark c.args.marks.now (c.loop-k.k + 1) (set c.loop-k.marks c.loop-k.k c.args.mark) c.if-marks-k-eq0.marks true c.if-marks-k-eq0.found w.marks-is w.found-is
          (scan_marks test c.args.mark c.args.marks.now c.loop-k.k c.loop-k.marks c.loop-k.found c.loop-k.invariant below c.requires.mark w.if-marks-k-eq0.true (sym w.leads.ensures ∙ w.if-leads.true))
      | else-marks-k-eq0 w ↦
          let leaves : (slice_index c.loop-k.marks c.loop-k.k == 0 && test c.loop-k.k) ≡ false =
          elim w.else-marks-k-eq0.branch [
            | else-marks-k-eq0-via-then-marks-k-eq0+else-leads v ↦ and_right (slice_index c.loop-k.marks c.loop-k.k == 0) (test c.loop-k.k) (sym v.leads.ensures ∙ v.if-leads.false)
            | else-marks-k-eq0-via-else-marks-k-eq0 v ↦ and_left (slice_index c.loop-k.marks c.loop-k.k == 0) (test c.loop-k.k) (ne_eqb (slice_index c.loop-k.marks c.loop-k.k) 0 v.if-marks-k-eq0.false)
          ] in
          scan_same test c.args.mark c.args.marks.now (c.loop-k.k + 1) c.loop-k.marks c.if-marks-k-eq0.marks c.loop-k.found c.if-marks-k-eq0.found w.marks-is w.found-is
          (scan_leaves test c.args.mark c.args.marks.now c.loop-k.k c.loop-k.marks c.loop-k.found c.loop-k.invariant leaves)
    ]
