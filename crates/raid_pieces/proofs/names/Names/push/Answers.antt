use Rattle.std.proofs.Common.{◌++◌, ◌∷◌, [], ◌∙◌, ap, List, ℕ}
use Rattle.std.proofs.lemmas.List.{map_push}
use Rattle.raid_pieces.proofs.Keys.{absent_is}
use Rattle.raid_pieces.proofs.names.Names.push.Goals as goal

pub returns : goal.returns
returns c =
    let absent = absent_is c.args.name.now (λ k. k.now) c.self.inside.set.keys c.args.self.now c.self.view_is c.requires in
    rw (c.in_ok-insert.ensures.keys, absent) (map_push (λ k. k.now) c.self.inside.set.keys c.args.name ∙ ap (λ (xs : List (List ℕ)). xs ++ c.args.name.now ∷ []) c.self.view_is)
