use Rattle.std.proofs.Common.{◌≡◌, ℕ, ◌+◌, ◌<◌, [], List, length, map, arith, refl, ap, sym, subst, ◌∙◌, Vec, Global}
use Rattle.std.specs.Prelude.{slice_set, slice_index_or}
use Rattle.std.proofs.lemmas.List.{map-set, with_items_is}
use Rattle.raid_causes.proofs.Lists.{map_long}
use Rattle.raid_link.specs.declared.ends.Sender.{Sender}
use Rattle.raid_link.specs.declared.ends.Receiver.{Receiver}
use Rattle.raid_nodes.specs.Opening.{AllLinks, AreOpened, Welcomed}
use Rattle.raid_nodes.proofs.Maps.{mapped_at}
use Rattle.raid_nodes.proofs.Links.{none_sent_yet, opened}
use Rattle.raid_nodes.proofs.making.nodes.Goals as goal

-- the row of the sequencer's ends, as it is found in its vector
row_is : (outs : List (Vec Sender Global)) (row : Vec Sender Global) (now : List Sender) → 1 < length outs → row ≡ slice_index_or outs 1 row → now ≡ row.items → now ≡ slice_index_or (map (λ (r : Vec Sender Global). r.items) outs) 1 []
row_is outs row now low at is = is ∙ ap (λ (r : Vec Sender Global). r.items) at ∙ sym (mapped_at (λ (r : Vec Sender Global). r.items) outs 1 row [] low)

has_rows : (n : ℕ) (outs : List (Vec Sender Global)) (inputs : List (List Receiver)) → 1 < n → AllLinks n n (map (λ (r : Vec Sender Global). r.items) outs) inputs → 1 < length outs
has_rows n outs inputs some a = let l = map_long (λ (r : Vec Sender Global). r.items) outs in let s = a.senders in omega (arith, l, s, some)

pub welcome_all-requires-clause-count : goal.welcome_all-requires-clause-count
welcome_all-requires-clause-count g c =
    let all = c.in_ok-ends.ensures in
    let outs = c.in_ok-ends.ends.outs.items in
    let n = c.args.workload.now.sites + 2 in
    ap length (row_is outs c.index_mut.result.now c.deref_mut.result.now (has_rows n outs _ (omega arith) all) c.index_mut.ensures.value c.deref_mut.ensures.value) ∙ all.each_out 1 (omega arith)

pub welcome_all-requires-clause-none : goal.welcome_all-requires-clause-none
welcome_all-requires-clause-none g c =
    let all = c.in_ok-ends.ensures in
    let outs = c.in_ok-ends.ends.outs.items in
    let n = c.args.workload.now.sites + 2 in
    none_sent_yet n _ _ c.deref_mut.result.now all (omega arith) (row_is outs c.index_mut.result.now c.deref_mut.result.now (has_rows n outs _ (omega arith) all) c.index_mut.ensures.value c.deref_mut.ensures.value)

pub seat-requires-clause-opened : goal.seat-requires-clause-opened
seat-requires-clause-opened g c =
    let w = c.args.workload.now in
    let n = c.args.workload.now.sites + 2 in
    let all = c.in_ok-ends.ensures in
    let outs = c.in_ok-ends.ends.outs.items in
    let row = c.index_mut.result.now in
    let after = c.welcome_all.new.senders in
    let is = row_is outs row c.deref_mut.result.now (has_rows n outs _ (omega arith) all) c.index_mut.ensures.value c.deref_mut.ensures.value in
    let welcomed = subst (λ (ss : List Sender). Welcomed w (w.sites + 2) ss after) is c.in_ok-welcome_all.ensures in
    let long : length c.welcome_all.new.senders ≡ length c.deref_mut.result.now = c.in_ok-welcome_all.ensures.long in
    let written = with_items_is row after (omega (arith, long, c.deref_mut.ensures.len)) in
    subst (λ (rows : List (List Sender)). AreOpened w rows (map (λ (r : Vec Receiver Global). r.items) c.in_ok-ends.ends.inputs.items))
    (sym (map-set (λ (r : Vec Sender Global). r.items) outs 1 _ ∙ ap (slice_set (map (λ (r : Vec Sender Global). r.items) outs) 1) written))
    (opened w n (map (λ (r : Vec Sender Global). r.items) outs) (map (λ (r : Vec Receiver Global). r.items) c.in_ok-ends.ends.inputs.items) after refl all welcomed)
