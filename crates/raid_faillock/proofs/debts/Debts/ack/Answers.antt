use Rattle.std.proofs.Common.{refl, ap, ◌∙◌, List, [], not, length, ◌==◌, filter, slice_index_or}
use Rattle.raid_base.specs.declared.names.Txn.{Txn}
use Rattle.raid_base.specs.declared.names.Site.{Site}
use Rattle.raid_faillock.proofs.Owed.{acked}
use Rattle.raid_faillock.proofs.debts.Debts.ack.Goals as goal

pub returns : goal.returns
returns c =
    acked c.args.self.now (record { owed = c.pay.new.owed; wrote = c.args.self.now.wrote; unpaid = c.forget.new.unpaid }) c.args.txn c.args.site c.requires.listed c.pay.ensures refl
    (c.forget.ensures ∙ ap (λ (owed : List (List Site)). filter (λ (t : Txn). not (length (slice_index_or owed t.0 []) == 0)) c.args.self.now.unpaid.items) c.as_slice.ensures.value)
