-- What a node of a kind adds, where the tests before its own fail and its own holds.
use mathlib.Core.Path.{◌≡◌, refl, sym, ap, ◌∙◌}
use mathlib.Core.Bool.{Bool, true, false, cond, ◌||◌}
use mathlib.Core.List.{List}
use Prim.Native.Nat.{ℕ}
use lib.Dec.{eqb}
use Rattle.grammar.specs.NodeKinds.{n_do, n_for_end, n_procedure, n_procedure_end}
use Rattle.emitting.specs.model.Emission.{State, mark_at, top, element_node, loop_node, choice_node, block_node, procedure_node, plain_node, is_element, is_choice, is_block}
use Rattle.emitting.specs.model.Arrays.{rest_node}

holds : {b : Bool} (x y : State) → b ≡ true → x ≡ cond b x y
holds x y e = sym (ap (λ (z : Bool). cond z x y) e)

fails : {b : Bool} (x : State) {y z : State} → b ≡ false → z ≡ y → z ≡ cond b x y
fails x {y = y} e q = q ∙ sym (ap (λ (w : Bool). cond w x y) e)

module _ (vs ly ks es rows marks : List ℕ) (k s p a : ℕ) (st : State) where
  pub rest_element : is_element vs ly ks es k ≡ true → element_node vs ly ks es k (top st.open_ones) p st ≡ rest_node vs ly ks es rows marks k s p a st
  unfolding rest_node
  rest_element e = holds _ _ e

  module _ (e : is_element vs ly ks es k ≡ false) where
    pub rest_loop : eqb k n_do || eqb k n_for_end ≡ true → loop_node vs ly ks es k (top st.open_ones) st ≡ rest_node vs ly ks es rows marks k s p a st
    unfolding rest_node
    rest_loop f = fails _ e (holds _ _ f)

    module _ (f : eqb k n_do || eqb k n_for_end ≡ false) where
      pub rest_choice : is_choice vs ly ks es k ≡ true → choice_node vs ly ks es k (top st.open_ones) (mark_at marks s) st ≡ rest_node vs ly ks es rows marks k s p a st
      unfolding rest_node
      rest_choice g = fails _ e (fails _ f (holds _ _ g))

      module _ (g : is_choice vs ly ks es k ≡ false) where
        pub rest_block : is_block vs ly ks es k ≡ true → block_node vs ly ks es rows k (top st.open_ones) p st ≡ rest_node vs ly ks es rows marks k s p a st
        unfolding rest_node
        rest_block h = fails _ e (fails _ f (fails _ g (holds _ _ h)))

        module _ (h : is_block vs ly ks es k ≡ false) where
          pub rest_procedure : eqb k n_procedure || eqb k n_procedure_end ≡ true → procedure_node vs ly ks es k (top st.open_ones) st ≡ rest_node vs ly ks es rows marks k s p a st
          unfolding rest_node
          rest_procedure i = fails _ e (fails _ f (fails _ g (fails _ h (holds _ _ i))))

          pub rest_plain : eqb k n_procedure || eqb k n_procedure_end ≡ false → plain_node vs ly ks es k s p a st ≡ rest_node vs ly ks es rows marks k s p a st
          unfolding rest_node
          rest_plain i = fails _ e (fails _ f (fails _ g (fails _ h (fails _ i refl))))
