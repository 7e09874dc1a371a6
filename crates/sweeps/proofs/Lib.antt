-- Why a sweep is what `Swept` says: of the cells (`SweptLaws`), and of the call (`SweepLaws`).
pub mod SweptLaws
pub mod SweepLaws
