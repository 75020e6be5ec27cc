use Rattle.std.proofs.Common.{◌≡◌, ◌+◌, ◌++◌, ◌∷◌, [], List, map, length, arith, ap, sym, subst, ◌∙◌, Vec, Global}
use Rattle.std.proofs.lemmas.List.{map-append, with_items_is}
use Rattle.raid_causes.proofs.Lists.{map_long}
use Rattle.raid_link.specs.declared.ends.Sender.{Sender}
use Rattle.raid_link.specs.declared.ends.Receiver.{Receiver}
use Rattle.raid_nodes.specs.Opening.{AddedUpTo, AllLinks}
use Rattle.raid_nodes.proofs.Links.{links_more}
use Rattle.raid_nodes.proofs.linking.links.Goals as goal

pub loop-from-preserved : goal.loop-from-preserved
loop-from-preserved c =
    let rows : List (Vec Receiver Global) → List (List Receiver) = map (λ (row : Vec Receiver Global). row.items) in
    let outs : List (Vec Sender Global) → List (List Sender) = map (λ (row : Vec Sender Global). row.items) in
    let a = c.loop-from.invariant in
    let ss = c.in_ok-senders.senders in
    let b = subst (λ (v : List (Vec Receiver Global)). AddedUpTo (length v) (map (λ (row : Vec Receiver Global). row.items) v) ss.items (map (λ (row : Vec Receiver Global). row.items) c.links_from.new.inputs)) c.deref_mut.ensures.value c.in_ok-senders.ensures in
    let was : length (map (λ (row : Vec Receiver Global). row.items) c.loop-from.inputs.items) ≡ length c.loop-from.inputs.items = map_long (λ (row : Vec Receiver Global). row.items) c.loop-from.inputs.items in
    let long : length c.links_from.new.inputs ≡ length c.loop-from.inputs.items = sym (map_long (λ (row : Vec Receiver Global). row.items) c.links_from.new.inputs) ∙ b.long ∙ was in
    let count : length c.loop-from.inputs.items ≡ c.args.count = sym was ∙ a.receivers in
    let at : length c.deref_mut.result.now ≡ length c.loop-from.inputs.items = ap length c.deref_mut.ensures.value in
    let written = with_items_is c.loop-from.inputs c.links_from.new.inputs (omega (arith, long, at, c.deref_mut.ensures.len)) in
    let outs_are : outs c.push.new.self.items ≡ outs c.loop-from.outs.items ++ ss.items ∷ [] = ap outs c.in_ok-push.ensures.items ∙ map-append (λ (row : Vec Sender Global). row.items) c.loop-from.outs.items (ss ∷ []) in
    subst (λ (v : List (Vec Receiver Global)). AllLinks (c.loop-from._from + 1) c.args.count (map (λ (row : Vec Sender Global). row.items) c.push.new.self.items) (map (λ (row : Vec Receiver Global). row.items) v)) (sym written)
    (links_more c.loop-from._from c.args.count (outs c.loop-from.outs.items) (outs c.push.new.self.items) (rows c.loop-from.inputs.items) (rows c.links_from.new.inputs) ss.items (length c.loop-from.inputs.items) a count b outs_are)

pub returns : goal.returns
returns c =
    let e : c.loop-from._from ≡ c.args.count = omega (arith, c.loop-from-test.false, c.loop-from.auto._from-end) in
    subst (λ n. AllLinks n c.args.count (map (λ (row : Vec Sender Global). row.items) c.loop-from.outs.items) (map (λ (row : Vec Receiver Global). row.items) c.loop-from.inputs.items)) e c.loop-from.invariant
