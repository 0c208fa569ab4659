pub mod DecodesAsPushed
