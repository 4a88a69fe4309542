pub mod StepLaws
pub mod RegistersInRange
pub mod InstructionLaws
pub mod Extra
