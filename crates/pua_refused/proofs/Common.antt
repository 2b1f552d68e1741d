-- What many proofs of this crate name, from where it stands.
pub use Rattle.std.proofs.Common.{◌∙◌, ◌∷◌, ◌≡◌, false, None, refl, Some, sym}
pub use Rattle.std.proofs.lemmas.Bool.{false≢true}
pub use Rattle.pua_tree.specs.Tree.{empty_tree}
