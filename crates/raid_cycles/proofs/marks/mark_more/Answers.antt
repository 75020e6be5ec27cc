use Rattle.std.proofs.Common.{◌+◌, true, cond, ap, sym, ◌∙◌}
use Rattle.raid_cycles.proofs.Marking.{ends, round_same, round_passes, round_adds}
use Rattle.raid_cycles.proofs.marks.mark_more.Goals.{then-marks-k+then-mark_sources, else-marks-k, else-marks-k-via-then-marks-k+else-mark_sources, else-marks-k-via-else-marks-k}
use Rattle.raid_cycles.proofs.marks.mark_more.Goals as goal

pub loop-k-preserved : goal.loop-k-preserved
loop-k-preserved g c =
    let members = c.args.members.now in
    let leads = g.G.Graph.edges c.args.graph.now in
    elim c.if-marks-k.branch [
      | then-marks-k+then-mark_sources w ↦
          let more = w.mark_sources.new.marks in
          let any = w.mark_sources.result in
          round_same members leads c.args.most c.args.next c.args.marks.now (c.loop-k.k + 1) more c.if-marks-k.marks (cond any true c.loop-k.found) c.if-marks-k.found w.marks-is
          (w.found-is ∙ sym (ap (λ b. cond b true c.loop-k.found) w.if-mark_sources.true))
          (round_adds members leads c.args.most c.args.next c.args.marks.now c.loop-k.k c.loop-k.marks c.loop-k.found more any c.loop-k.invariant c.requires.most c.requires.next c.loop-k-test.true w.if-marks-k.true
          w.mark_sources.auto.marks w.mark_sources.ensures.marks w.mark_sources.ensures.none w.mark_sources.ensures.fewer)
      | else-marks-k w ↦
          elim w.else-marks-k.branch [
            | else-marks-k-via-then-marks-k+else-mark_sources v ↦
                let more = v.mark_sources.new.marks in
                let any = v.mark_sources.result in
                round_same members leads c.args.most c.args.next c.args.marks.now (c.loop-k.k + 1) more c.if-marks-k.marks (cond any true c.loop-k.found) c.if-marks-k.found (w.marks-is ∙ v.marks-is)
                (w.found-is ∙ sym (ap (λ b. cond b true c.loop-k.found) v.if-mark_sources.false))
                (round_adds members leads c.args.most c.args.next c.args.marks.now c.loop-k.k c.loop-k.marks c.loop-k.found more any c.loop-k.invariant c.requires.most c.requires.next c.loop-k-test.true v.if-marks-k.true
                v.mark_sources.auto.marks v.mark_sources.ensures.marks v.mark_sources.ensures.none v.mark_sources.ensures.fewer)
            | else-marks-k-via-else-marks-k v ↦
                round_same members leads c.args.most c.args.next c.args.marks.now (c.loop-k.k + 1) c.loop-k.marks c.if-marks-k.marks c.loop-k.found c.if-marks-k.found (w.marks-is ∙ v.marks-is) w.found-is
                (round_passes members leads c.args.most c.args.next c.args.marks.now c.loop-k.k c.loop-k.marks c.loop-k.found c.loop-k.invariant v.if-marks-k.false)
          ]
    ]

pub returns-clause-marked : goal.returns-clause-marked
returns-clause-marked g c = λ start m. ends c.args.members.now (g.G.Graph.edges c.args.graph.now) start c.args.most c.args.next c.loop-k.k c.loop-k.marks c.requires.most c.requires.next c.loop-k-test.false (c.loop-k.invariant.marked start m)
