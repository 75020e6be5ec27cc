use Rattle.std.proofs.Common.{◌≡◌, List, length, map, arith, refl, sym, subst}
use Rattle.std.specs.Vec.{with_items}
use Rattle.std.proofs.lemmas.List.{with_items_is}
use Rattle.raid_link.specs.declared.ends.Sender.{Sender}
use Rattle.raid_causes.specs.Histories.{letter_of}
use Rattle.raid_nodes.specs.Nodes.{AreSent}
use Rattle.raid_nodes.proofs.Heard.{addressed, goes_after, heard_after}
use Rattle.raid_nodes.proofs.node.ServerNode.hear.Goals as goal

pub send_all-requires : goal.send_all-requires
send_all-requires g c =
    record { to = addressed _ c.args.workload.now c.args.self.now c.args.from c.args.letter.now c.in_ok-outs.outs c.deref_mut.result.now c.requires.goes c.requires.from c.deref_mut.ensures.value c.in_ok-outs.ensures.outs }

pub returns-clause-heard : goal.returns-clause-heard
returns-clause-heard g c =
    let letters = map (letter_of c.session-session.result c.next_clock-clock.result) c.in_ok-outs.outs in
    let went = subst (λ (ss : List Sender). AreSent letters ss c.send_all.new.senders) c.deref_mut.ensures.value c.in_ok-send_all.ensures in
    let long : length c.send_all.new.senders ≡ length c.deref_mut.result.now = c.in_ok-send_all.ensures.count in
    let written = with_items_is c.args.self.now.outs c.send_all.new.senders (omega (arith, long, c.deref_mut.ensures.len)) in
    let sent = subst (AreSent letters c.args.self.now.outs.items) (sym written) went in
    heard_after c.args.workload.now c.args.self.now (record c.args.self.now { server = c.hear.new.self; clock = c.next_clock-clock.result; journal = c.push.new.self; outs = with_items c.args.self.now.outs c.send_all.new.senders; tokens = c.tokens_after-self.result }) c.args.from c.session-session.result c.next_clock-clock.result c.args.letter.now c.in_ok-outs.outs
    c.in_ok-outs.ensures.state c.in_ok-outs.ensures.outs c.session-session.ensures c.next_clock-clock.ensures sent refl refl c.in_ok-push.ensures.ok refl

pub returns-clause-goes : goal.returns-clause-goes
returns-clause-goes g c =
    let letters = map (letter_of c.session-session.result c.next_clock-clock.result) c.in_ok-outs.outs in
    let went = subst (λ (ss : List Sender). AreSent letters ss c.send_all.new.senders) c.deref_mut.ensures.value c.in_ok-send_all.ensures in
    let long : length c.send_all.new.senders ≡ length c.deref_mut.result.now = c.in_ok-send_all.ensures.count in
    let written = with_items_is c.args.self.now.outs c.send_all.new.senders (omega (arith, long, c.deref_mut.ensures.len)) in
    let sent = subst (AreSent letters c.args.self.now.outs.items) (sym written) went in
    goes_after _ c.args.workload.now c.args.self.now (record c.args.self.now { server = c.hear.new.self; clock = c.next_clock-clock.result; journal = c.push.new.self; outs = with_items c.args.self.now.outs c.send_all.new.senders; tokens = c.tokens_after-self.result }) c.args.from c.args.letter.now _ letters c.requires.goes c.in_ok-outs.ensures.goes c.in_ok-outs.ensures.state c.in_ok-outs.ensures.heard
    sent refl c.in_ok-push.ensures.ok refl
