use Rattle.std.proofs.Common.{◌≡◌, ◌<◌, ◌+◌, ◌++◌, ◌∷◌, [], List, map, length, arith, ap, sym, subst, ◌∙◌, Vec, Global}
use Rattle.std.specs.Prelude.{slice_set, slice_index_or}
use Rattle.std.proofs.lemmas.List.{map-set}
use Rattle.raid_causes.proofs.Lists.{map_long}
use Rattle.raid_link.specs.declared.ends.Sender.{Sender}
use Rattle.raid_link.specs.declared.ends.Receiver.{Receiver}
use Rattle.raid_nodes.specs.Opening.{AddedUpTo}
use Rattle.raid_nodes.proofs.Maps.{mapped_at}
use Rattle.raid_nodes.proofs.Links.{added_more}
use Rattle.raid_nodes.proofs.linking.links_from.Goals as goal

pub loop-to-preserved : goal.loop-to-preserved
loop-to-preserved c =
    let rows : List (Vec Receiver Global) → List (List Receiver) = map (λ (row : Vec Receiver Global). row.items) in
    let k = c.loop-to.to in
    let a = c.loop-to.invariant in
    let low : c.loop-to.to < length (map (λ (row : Vec Receiver Global). row.items) c.args.inputs.now) = let l = map_long (λ (row : Vec Receiver Global). row.items) c.args.inputs.now in omega (arith, l, c.loop-to-test.true) in
    let here : c.loop-to.to < length c.loop-to.inputs = let l = map_long (λ (row : Vec Receiver Global). row.items) c.loop-to.inputs in let m = a.long in omega (arith, l, m, low) in
    let is : rows (slice_set c.loop-to.inputs k c.push-in-loop-to.new.self) ≡ slice_set (rows c.loop-to.inputs) k (slice_index_or (rows c.loop-to.inputs) k [] ++ c.in_ok-sender.receiver ∷ []) =
    map-set (λ (row : Vec Receiver Global). row.items) c.loop-to.inputs k c.push-in-loop-to.new.self
    ∙ ap (slice_set (rows c.loop-to.inputs) k) (c.in_ok-push-2.ensures.items ∙ ap (λ (rs : List Receiver). rs ++ c.in_ok-sender.receiver ∷ []) (sym (mapped_at (λ (row : Vec Receiver Global). row.items) c.loop-to.inputs k c.index-inputs-to.result [] here))) in
    let e = c.in_ok-sender.ensures in
    subst (λ (ss : List Sender). AddedUpTo (k + 1) (rows c.args.inputs.now) ss (rows (slice_set c.loop-to.inputs k c.push-in-loop-to.new.self))) (sym c.in_ok-push.ensures.items)
    (added_more k (rows c.args.inputs.now) (rows c.loop-to.inputs) _ c.loop-to.senders.items c.in_ok-sender.sender c.in_ok-sender.receiver low a e.link e.empty.0 e.empty.1 is)
