use Rattle.std.proofs.Common.{refl, ap, ◌∙◌, List, [], not, ◌&&◌, length, ◌==◌, filter, slice_index_or}
use Rattle.raid_base.specs.declared.names.Txn.{Txn}
use Rattle.raid_base.specs.declared.names.Site.{Site}
use Rattle.raid_base.specs.Names.{is_site, has_txn}
use Rattle.raid_faillock.specs.Debts.{owes_in}
use Rattle.raid_faillock.proofs.Owed.{downed}
use Rattle.raid_faillock.proofs.debts.Debts.down.Goals as goal

pub returns : goal.returns
returns c =
    downed c.args.self.now (record { owed = c.pay_all.new.owed; wrote = c.args.self.now.wrote; unpaid = c.forget.new.unpaid }) c.args.site c.requires.listed
    (λ s u. c.pay_all.ensures s u ∙ ap (λ (ts : List Txn). owes_in c.args.self.now s u && not (has_txn ts u && is_site s c.args.site)) c.as_slice.ensures.value) refl
    (c.forget.ensures ∙ ap (λ (owed : List (List Site)). filter (λ (t : Txn). not (length (slice_index_or owed t.0 []) == 0)) c.args.self.now.unpaid.items) c.as_slice-2.ensures.value)
