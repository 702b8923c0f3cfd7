-- A `&` to a `Seen` holds what it knows, which can be had twice.
use mathlib.Core.List.{[], ◌∷◌}
use base.Logic.{snd∗}
use base.Before.{before}
use types.Logic.{sem}
use denote.RattleType.{RattleType}
use denote.Param.Laws.{Laws}
use denote.Param.Shared.{copy_shared}
use denote.Struct.Tuple.{Tuple}
use denote.Struct.Laws.{field_copy}
use denote.Struct.Lending.{of_Lends}
use Rattle.core.specs.contracts.marker.PhantomData as marker
use Rattle.pagebook.specs.Owned.{seen_owns}
use Rattle.pagebook.specs.declared.rule.Rule.{Ghosts}
use Rattle.pagebook.specs.contracts.word.Seen as C
use Rattle.pagebook.proofs.Book.Steps.{seen_copied}
use Rattle.pagebook.proofs.Share.Twice.{lends_twice}
use Rattle.pagebook.proofs.word.Seen.TheLaw.Statement.{statement}

pub shares : (E P R : RattleType) (g : Ghosts R.Denot E.Denot P.Denot) (L : Laws E) (L' : Laws P) (L'' : Laws R)
    → statement E P R g L L' L''
shares E P R g L L' L'' = let All = Tuple (E ∷ P ∷ R ∷ []) in
    of_Lends (C.struct E P R g) (C.the_codes E.Denot P.Denot R.Denot E.coded P.coded R.coded
    (marker.the_row All).coded) (C.the_heap E P R g) (C.the_lent E P R g)
    (λ d p. record {
      contraction = λ M 𝓤 𝓛 κ. seen_copied 𝓛 E.coded P.coded g.holds d.book d.log;
      mono =
          λ M 𝓤 𝓛 κ' κ. snd∗ 𝓤 (sem 𝓛 (before κ' κ)) (sem 𝓛 (seen_owns E.coded.code P.coded.code g.holds d.book d.log));
    })
    (copy_shared (marker.the_field All) (field_copy (marker.the_type All) tt), tt)
    (λ M 𝓤 𝓛 d p. lends_twice 𝓛 (seen_owns E.coded.code P.coded.code g.holds d.book d.log)
    (seen_copied 𝓛 E.coded P.coded g.holds d.book d.log) (C.the_row E P R g).lives)
