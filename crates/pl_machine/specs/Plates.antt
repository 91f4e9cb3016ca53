-- Two plates.
pub record Both (Plate : Type 0) : Type 0 where
  pub edited : Plate
  pub applied : Plate
