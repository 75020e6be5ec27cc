use Rattle.std.proofs.Common.{◌≡◌, ◌++◌, ◌∷◌, [], ℕ, List, codes, map, subst, OnOk}
use Rattle.std.specs.Fmt.{decimal}
use Rattle.raid_report.specs.Spelling.{spelling, print_of, entry_lines, order_words, final_words, copy_words}
use Rattle.raid_report.proofs.Lists.{finals_known, copies_known}
use Rattle.raid_report.proofs.Parts.{parts}
use Rattle.raid_report.proofs.writing.put_report.Goals as goal

pub put_finals-requires : goal.put_finals-requires
put_finals-requires c = rw c.as_slice-3.ensures (finals_known c.args.workload.now c.args.report.now.finals c.requires.report.finals)

pub put_copies-requires : goal.put_copies-requires
put_copies-requires c = rw c.as_slice-4.ensures (copies_known c.args.workload.now c.args.report.now.copies c.requires.report.copies)

pub returns : goal.returns
unfolding spelling
returns c =
    let w = c.args.workload.now in
    let r = c.args.report.now in
    let e1 = c.in_ok-first_line.ensures in
    let e2 = rw c.as_slice.ensures at c.in_ok-put_entries.ensures in
    let e3 = rw c.as_slice-2.ensures at c.in_ok-order_line.ensures in
    let e4 = rw c.as_slice-3.ensures at c.in_ok-put_finals.ensures in
    let e5 = rw c.as_slice-4.ensures at c.in_ok-put_copies.ensures in
    let all : c.put_copies.new.out ++ codes "done\n" ≡ c.args.out.now ++ print_of w r =
    rw (e5, e4, e3, e2, e1) (parts c.args.out.now (codes "report" ∷ decimal w.version ∷ []) (entry_lines w 1 r.entries) (order_words w r.order) (map (final_words w) r.finals) (map (copy_words w) r.copies) (codes "done" ∷ [])) in
    subst (λ (text : List ℕ). OnOk c.push_all.result (c.push_all.new.self ≡ text)) all c.push_all.ensures.ok
