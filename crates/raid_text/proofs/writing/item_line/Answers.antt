use Rattle.raid_text.proofs.Holders.{higher}
use Rattle.raid_text.proofs.Items.{item_parts}
use Rattle.raid_text.proofs.writing.item_line.Goals as goal

pub put_sites-requires : goal.put_sites-requires
put_sites-requires c =
    let is = item_parts c.args.sites c.args.item.now c.requires.item in
    higher 1 c.args.sites 8 c.args.item.now.holders c.requires.few is.holders
